-- In a legal history a record at no word of RAM is its task's last.
use Rattle.rt_profile.proofs.Common.{◌≡◌, ℕ, zero, suc, ◌+◌, ◌-◌, ◌*◌, ◌/◌, ◌%◌, ◌≤◌, ◌==◌, nat_le, nat_lt, Bool, true, false, cond, List, [], ◌∷◌, ◌++◌, length, slice_get, Option, Some, None, refl, sym, ap, subst, ◌∙◌, arith, option_map_or, leb-true, eqb-true, nat_tests, base, SetTask, TaskSet, Attempt, Record, Idle, Busy, legal, attempts, word_at, word_count}
use Rattle.std.proofs.Common.{◌⊎◌, inl, inr, ◌&&◌, ◌||◌, Ok, Err}
use Rattle.std.proofs.lemmas.List.{append-nil}
use Rattle.rt_exec.specs.declared.mem.access_fault.AccessFault.TheVariants.{LoadMisaligned, LoadAccess}
use Rattle.rt_exec.specs.mem.Access.{load, number}
use Rattle.rt_exec.specs.declared.outcome.Fault.{Fault as Faults}
use Rattle.rt_exec.specs.declared.outcome.Fault.TheVariants.{FetchAccess}
use Rattle.rt_exec.specs.declared.fetcher.Fetched.TheVariants.{Outside}
use Rattle.rt_exec.specs.Attempt.{fetched, fetched_by, attempt}
use Rattle.rt_history.specs.declared.mode.Mode.{Mode}
use Rattle.rt_history.specs.declared.mode.Mode.TheVariants.{Active, Faulted}
use Rattle.rt_history.specs.declared.record.AttemptOutcome.TheVariants.{Fault}
use Rattle.rt_history.specs.Program.{Program, first_program}
use Rattle.rt_history.specs.Calls.{attempt_at}
use Rattle.rt_history.specs.Serving.{Serving, first_serving, due, after}
use Rattle.rt_history.specs.OwnPart.{own, program_after, serving_after, TaskState, task_state}
use Rattle.rt_history.specs.MachineState.{MachineState}
use Rattle.rt_history.specs.Reservations.{grants}
use Rattle.rt_history.specs.Legal.{attempt_of, stands_after, state_at}
use Rattle.rt_history.proofs.NamedLaws.{IsNamed, named_cases}
use Rattle.rt_history.proofs.OwnPartLaws.{own-same, own-other, own-own}
use Rattle.rt_history.proofs.ServingLaws.{serving_after-append}
use Rattle.rt_history.proofs.Steps.{length-legal, state-of}
use Rattle.rt_profile.proofs.RamLemmas.{ram-within}
use Rattle.rt_profile.proofs.StandingLaws.{attempts-append, attempts-other, attempts-own}

-- ---- a fetch at no word

test : (n : ℕ) (ram : List ℕ) (pc v : ℕ) (a b c : Bool) → (pc % 4 == 0) ≡ a → nat_le base pc ≡ b → nat_le (pc + 4) (base + length ram) ≡ c → length ram ≤ 4 * n → word_at n pc ≡ None
    → fetched_by (cond (a || false) (cond (b && c) (Ok v) (Err LoadAccess)) (Err LoadMisaligned)) ≡ Outside
test n ram pc v true true true even above within size none =
    let low : base ≤ pc = leb-true base pc above in
    let high : pc + 4 ≤ base + length ram = leb-true (pc + 4) (base + length ram) within in
    let below : nat_lt ((pc - base) / 4) n ≡ true = grind (arith, nat_tests) in
    let found : word_at n pc ≡ Some ((pc - base) / 4) = rw (even, above, below) refl in
    absurd cc
test n ram pc v true true false even above within size none = refl
test n ram pc v true false c even above within size none = refl
test n ram pc v false b c even above within size none = refl

outside : (n : ℕ) (ram : List ℕ) (pc : ℕ) → length ram ≤ 4 * n → word_at n pc ≡ None → fetched ram pc ≡ Outside
unfolding fetched load
outside n ram pc size none = test n ram pc (number 4 ram (pc - base)) (pc % 4 == 0) (nat_le base pc) (nat_le (pc + 4) (base + length ram)) refl refl refl size none

faults : (n u : ℕ) (granted : ℕ → Bool) (p : Program) → length p.state.ram ≤ 4 * n → word_at n p.state.pc ≡ None → (attempt_at u granted p).outcome ≡ Fault FetchAccess
unfolding attempt_at attempt
faults n u granted p size none = let is = outside n p.state.ram p.state.pc size none in rw is refl

-- ---- records

-- a record at no word is the last
abbrev pub IsShaped : ℕ → List Attempt → Type 0
IsShaped n [] = Unit {0}
IsShaped n (r ∷ rs) = (word_at n r.pc ≡ None → rs ≡ []) × IsShaped n rs

-- none is at no word
abbrev IsInside : ℕ → List Attempt → Type 0
IsInside n [] = Unit {0}
IsInside n (r ∷ rs) = (word_at n r.pc ≡ None → ⊥) × IsInside n rs

shaped-push : (n : ℕ) (rs : List Attempt) (a : Attempt) → IsInside n rs → IsShaped n (rs ++ a ∷ [])
shaped-push n [] a all = (λ none. refl, tt)
shaped-push n (r ∷ rs) a all = (λ none. absurd (all.0 none), shaped-push n rs a all.1)

inside-push : (n : ℕ) (rs : List Attempt) (a : Attempt) → IsInside n rs → (word_at n a.pc ≡ None → ⊥) → IsInside n (rs ++ a ∷ [])
inside-push n [] a all one = (one, tt)
inside-push n (r ∷ rs) a all one = (all.0, inside-push n rs a all.1 one)

inside-shaped : (n : ℕ) (rs : List Attempt) → IsInside n rs → IsShaped n rs
inside-shaped n [] all = tt
inside-shaped n (r ∷ rs) all = (λ none. absurd (all.0 none), inside-shaped n rs all.1)

-- all are inside; or the last may not be, and the task has faulted
abbrev Settled : ℕ → List Attempt → Mode → Type 0
Settled n rs m = IsInside n rs ⊎ (IsShaped n rs × ((f : Faults) × (m ≡ Faulted f)))

-- a record more of a task that was active
settled-push : (n u : ℕ) (granted : ℕ → Bool) (p : Program) (rs : List Attempt) (a : Attempt) (v : Serving) → length p.state.ram ≤ 4 * n → a.pc ≡ p.state.pc → a.outcome ≡ (attempt_at u granted p).outcome
    → (due u v).mode ≡ Active → Settled n rs v.mode → Settled n (rs ++ a ∷ []) (after u a.outcome (due u v).account).mode
settled-push n u granted p rs a v size pc same active settled = by_place (word_at n a.pc) refl
  where
    inside : IsInside n rs
    inside = elim settled [
      | inl all ↦ all
      | inr last ↦
          let stays : (due u v).mode ≡ Faulted last.1.0 = ap (λ (m : Mode). (due u (record { account = v.account; mode = m })).mode) last.1.1 in
          absurd cc
    ]

    by_place : (place : Option ℕ) → word_at n a.pc ≡ place → Settled n (rs ++ a ∷ []) (after u a.outcome (due u v).account).mode
    by_place None is =
        let none : word_at n p.state.pc ≡ None = ap (word_at n) (sym pc) ∙ is in
        let fault : a.outcome ≡ Fault FetchAccess = same ∙ faults n u granted p size none in
        inr (shaped-push n rs a inside, (FetchAccess, ap (λ o. (after u o (due u v).account).mode) fault))
    by_place (Some w) is = inl (inside-push n rs a inside (λ none. absurd cc))

-- ---- the legal history

abbrev IsSettledAt : ℕ → SetTask → List Record → Type 0
IsSettledAt i s h = Settled (word_count s) (attempts i h) (serving_after (first_serving s) (own i h)).mode

same_settled : (i : ℕ) (s : SetTask) (h k : List Record) → attempts i k ≡ attempts i h → own i k ≡ own i h → IsSettledAt i s h → IsSettledAt i s k
same_settled i s h k rs es it =
    subst (λ (xs : List Attempt). Settled (word_count s) xs (serving_after (first_serving s) (own i k)).mode) (sym rs)
    (subst (λ es. Settled (word_count s) (attempts i h) (serving_after (first_serving s) es).mode) (sym es) it)

next-idle : (t i : ℕ) (s : SetTask) (h : List Record) → length h ≡ t → IsSettledAt i s h → IsSettledAt i s (h ++ Idle ∷ [])
next-idle t i s h len it =
    same_settled i s h (h ++ Idle ∷ []) (attempts-append i h (Idle ∷ []) ∙ append-nil (attempts i h)) (own-same t i h Idle len refl) it

next-other : (t i : ℕ) (s : SetTask) (h : List Record) (a : Attempt) → length h ≡ t → (a.task == i) ≡ false → IsSettledAt i s h → IsSettledAt i s (h ++ Busy a ∷ [])
next-other t i s h a len other it = same_settled i s h (h ++ Busy a ∷ []) (attempts-other i h a other) (own-other t i h a len other) it

next-own : (t i : ℕ) (s : SetTask) (h : List Record) (granted : ℕ → Bool) (a : Attempt) → length h ≡ t → (a.task == i) ≡ true → a ≡ attempt_of t i granted (task_state t h i s).program
    → (task_state t h i s).serving.mode ≡ Active → IsSettledAt i s h → IsSettledAt i s (h ++ Busy a ∷ [])
next-own t i s h granted a len own_one is active it =
    let p = program_after (first_program s) (own i h) in
    let v = serving_after (first_serving s) (own i h) in
    let more = settled-push (word_count s) t granted p (attempts i h) a v (ram-within s (own i h)) (ap (λ (b : Attempt). b.pc) is) (ap (λ (b : Attempt). b.outcome) is) active it in
    let es : own i (h ++ Busy a ∷ []) ≡ own i h ++ (t, a.outcome) ∷ [] = own-own t i h a len own_one in
    let serving : serving_after (first_serving s) (own i (h ++ Busy a ∷ [])) ≡ after t a.outcome (due t v).account =
    ap (serving_after (first_serving s)) es ∙ serving_after-append (first_serving s) (own i h) ((t, a.outcome) ∷ []) in
    subst (λ (xs : List Attempt). Settled (word_count s) xs (serving_after (first_serving s) (own i (h ++ Busy a ∷ []))).mode) (sym (attempts-own i h a own_one))
    (subst (λ (w : Serving). Settled (word_count s) (attempts i h ++ a ∷ []) w.mode) (sym serving) more)

states-get : (set : TaskSet) (t i : ℕ) (s : SetTask) → slice_get set.tasks i ≡ Some s → slice_get (stands_after set t (legal set t)).tasks i ≡ Some (task_state t (legal set t) i s)
unfolding state_at
states-get set t i s there = state-of set t i s there

settled : (set : TaskSet) (t i : ℕ) (s : SetTask) → slice_get set.tasks i ≡ Some s → IsSettledAt i s (legal set t)
unfolding legal
settled set zero i s there = inl tt
settled set (suc t) i s there =
    let h = legal set t in
    let m : MachineState = stands_after set t h in
    let it = settled set t i s there in
    named_cases (λ r. IsSettledAt i s (h ++ option_map_or (λ n. Busy (attempt_of t n.0 (grants m n.0) n.1.program)) r Idle ∷ [])) m.tasks
    (λ none. next-idle t i s h (length-legal set t) it)
    (λ j x is. by_task j x is (j == i) refl it)
  where
    by_task : (j : ℕ) (x : TaskState) → IsNamed (stands_after set t (legal set t)).tasks j x → (b : Bool) → (j == i) ≡ b → IsSettledAt i s (legal set t)
        → IsSettledAt i s (legal set t ++ Busy (attempt_of t j (grants (stands_after set t (legal set t)) j) x.program) ∷ [])
    by_task j x is false other it = next-other t i s (legal set t) (attempt_of t j (grants (stands_after set t (legal set t)) j) x.program) (length-legal set t) other it
    by_task j x is true hits it =
        let same : j ≡ i = eqb-true j i hits in
        let mine : slice_get (stands_after set t (legal set t)).tasks j ≡ Some (task_state t (legal set t) i s) =
        ap (slice_get (stands_after set t (legal set t)).tasks) same ∙ states-get set t i s there in
        let named : slice_get (stands_after set t (legal set t)).tasks j ≡ Some x = is.there in
        let state : x ≡ task_state t (legal set t) i s = cc in
        let granted = grants (stands_after set t (legal set t)) j in
        let record_is : attempt_of t j granted x.program ≡ attempt_of t i granted (task_state t (legal set t) i s).program =
        ap (λ (k : ℕ). attempt_of t k granted x.program) same ∙ ap (λ (y : TaskState). attempt_of t i granted y.program) state in
        let active : (task_state t (legal set t) i s).serving.mode ≡ Active = ap (λ (y : TaskState). y.serving.mode) (sym state) ∙ is.active in
        next-own t i s (legal set t) granted (attempt_of t j granted x.program) (length-legal set t) hits record_is active it

pub shaped : (set : TaskSet) (t i : ℕ) (s : SetTask) → slice_get set.tasks i ≡ Some s → IsShaped (word_count s) (attempts i (legal set t))
shaped set t i s there = elim (settled set t i s there) [ inl all ↦ inside-shaped (word_count s) (attempts i (legal set t)) all | inr last ↦ last.0 ]
