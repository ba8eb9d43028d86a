-- How many ticks of a task an entry of the legal history adds, and plain ticks at once.
use Rattle.rt_history.proofs.Common.{◌≡◌, ℕ, zero, suc, ◌+◌, ◌<◌, ◌≤◌, ◌==◌, Bool, true, false, cond, List, [], ◌∷◌, length, length-append, slice_set, refl, sym, ap, subst, ◌∙◌, arith, add-zero, TaskSet, Attempt, AttemptOutcome, Next, Record, Idle, Busy, Entry, own}
use Rattle.std.proofs.Common.{get_or}
use Rattle.std.proofs.lemmas.Bool.{eqb-true, eqb-false}
use Rattle.std.proofs.lemmas.Grind.{get_or-set_at}
use Rattle.std.proofs.lemmas.List.{get_or-set_other}
use Rattle.rt_history.specs.declared.record.Entry.TheVariants as entries
use Rattle.rt_history.specs.Entries.{ticks_of, GoesOnBy}
use Rattle.rt_history.specs.Legal.{record_at, legal, state_at}
use Rattle.rt_history.specs.Plain.{IsPlain, ArePlain}
use Rattle.rt_history.proofs.OwnPartLaws.{added, own-append, own-idle}
use Rattle.rt_history.proofs.Steps.{legal-first, length-legal, own-next}

-- a plain record is an attempt of its task that came out so
pub plain-attempt : (i : ℕ) (r : Record) → IsPlain i r → (a : Attempt) × ((r ≡ Busy a) × ((a.task ≡ i) × (a.outcome ≡ Next)))
plain-attempt i Idle plain = absurd plain
plain-attempt i (Busy a) plain = (a, (refl, plain))

-- how many ticks of task i an entry has
abbrev pub ticks_in : ℕ → Entry → ℕ
ticks_in i (entries.Busy t a) = cond (a.task == i) 1 0
ticks_in i (entries.Idle t n) = 0

length-added : (t i : ℕ) (a : Attempt) → length (added t i (Busy a)) ≡ cond (a.task == i) 1 0
length-added t i a = one (a.task == i)
  where
    one : (b : Bool) → length {A = ℕ × AttemptOutcome} (cond b ((t, a.outcome) ∷ []) []) ≡ cond b 1 0
    one true = refl
    one false = refl

-- one record more of the legal history
pub own-record : (set : TaskSet) (t i : ℕ) (a : Attempt) → record_at (state_at set t) ≡ Busy a
    → length (own i (legal set (t + 1))) ≡ length (own i (legal set t)) + cond (a.task == i) 1 0
own-record set t i a is =
    ap length (own-next set t i) ∙ length-append (own i (legal set t)) (added t i (record_at (state_at set t)))
    ∙ ap (λ (r : Record). length (own i (legal set t)) + length (added t i r)) is ∙ ap (λ (k : ℕ). length (own i (legal set t)) + k) (length-added t i a)

-- the ticks that a task has run by the end of an entry
pub own-entry : (set : TaskSet) (t i : ℕ) (e : Entry) → GoesOnBy set t e → length (own i (legal set (t + ticks_of e))) ≡ length (own i (legal set t)) + ticks_in i e
own-entry set t i (entries.Busy u a) goes =
    ap (λ h. length (own i h)) goes ∙ ap length (own-append t i (legal set t) (Busy a ∷ []) (length-legal set t))
    ∙ length-append (own i (legal set t)) (added t i (Busy a)) ∙ ap (λ (k : ℕ). length (own i (legal set t)) + k) (length-added t i a)
own-entry set t i (entries.Idle u n) goes =
    ap (λ h. length (own i h)) goes ∙ ap length (own-idle t i n (legal set t) (length-legal set t)) ∙ omega arith

-- and by the end of plain ticks of task j
pub own-plain : (set : TaskSet) (t i j n : ℕ) → ArePlain set t j n → length (own i (legal set (t + n))) ≡ length (own i (legal set t)) + cond (j == i) n 0
own-plain set t i j zero plain = ap (λ u. length (own i (legal set u))) (add-zero t) ∙ none (j == i)
  where
    none : (b : Bool) → length (own i (legal set t)) ≡ length (own i (legal set t)) + cond b 0 0
    none true = omega arith
    none false = omega arith
own-plain set t i j (suc n) plain =
    let before = own-plain set t i j n (λ k below. plain k (omega (arith, below))) in
    let it = plain-attempt j (record_at (state_at set (t + n))) (plain n (omega arith)) in
    let one = own-record set (t + n) i it.0 it.1.0 ∙ ap (λ (k : ℕ). length (own i (legal set (t + n))) + cond (k == i) 1 0) it.1.1.0 in
    let at : t + suc n ≡ t + n + 1 = omega arith in
    ap (λ u. length (own i (legal set u))) at ∙ one ∙ ap (λ (k : ℕ). k + cond (j == i) 1 0) before ∙ more (j == i)
  where
    more : (b : Bool) → length (own i (legal set t)) + cond b n 0 + cond b 1 0 ≡ length (own i (legal set t)) + cond b (suc n) 0
    more true = omega arith
    more false = omega arith

added-few : (t i : ℕ) (r : Record) → length (added t i r) ≤ 1
added-few t i Idle = omega arith
added-few t i (Busy a) = few (a.task == i) (length-added t i a)
  where
    few : (b : Bool) → length (added t i (Busy a)) ≡ cond b 1 0 → length (added t i (Busy a)) ≤ 1
    few true is = omega (arith, is)
    few false is = omega (arith, is)

-- no task has run more ticks than there were
pub own-count : (set : TaskSet) (t i : ℕ) → length (own i (legal set t)) ≤ t
own-count set zero i = let none : length (own i (legal set 0)) ≡ 0 = ap (λ h. length (own i h)) (legal-first set) in omega (arith, none)
own-count set (suc t) i =
    let one = added t i (record_at (state_at set t)) in
    let more : length (own i (legal set (t + 1))) ≡ length (own i (legal set t)) + length one = ap length (own-next set t i) ∙ length-append (own i (legal set t)) one in
    let next : t + 1 ≡ suc t = omega arith in
    subst (λ u. length (own i (legal set u)) ≤ u) next (omega (arith, own-count set t i, added-few t i (record_at (state_at set t)), more))

-- counts of tasks after n more ticks of task j
pub counted : (xs : List ℕ) (j n x : ℕ) → x ≡ get_or xs j 0 + n → j < length xs → (i : ℕ) → get_or (slice_set xs j x) i 0 ≡ get_or xs i 0 + cond (j == i) n 0
counted xs j n x more below i = one (j == i) refl
  where
    one : (b : Bool) → (j == i) ≡ b → get_or (slice_set xs j x) i 0 ≡ get_or xs i 0 + cond b n 0
    one true hit = let at : j ≡ i = eqb-true j i hit in get_or-set_at xs j i x 0 (sym at) below ∙ more ∙ ap (λ (k : ℕ). get_or xs k 0 + n) at
    one false miss = get_or-set_other xs j i x 0 (λ hit. eqb-false j i miss (sym hit)) ∙ omega arith
