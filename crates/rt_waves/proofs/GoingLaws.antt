-- A task that goes on: few of its signals change, and no other task's.
use Rattle.rt_waves.proofs.Common.{◌≡◌, ℕ, zero, suc, ◌+◌, ◌-◌, ◌<◌, ◌≤◌, ◌==◌, nat_lt, nat_le, Bool, true, false, List, [], ◌∷◌, ◌++◌, length, append_assoc, append-nil, codes, decimal, slice_get, slice_set, Option, Some, None, inl, inr, refl, sym, ap, subst, ◌∙◌, arith, option_map_or, cases_Bool, eq-eqb, nat_tests, tick_limit, Account, Active, Attempt, AttemptOutcome, Next, Busy, postpones, Changes, Wire, Number, Place, outcome_of, part_begin, wave, timed, TaskStanding, WavesState, telling_at, told_line, seen, visited, visited_all, lines_all, lines_of, gone_on, gone_by, offered, block_by, IsSoundWaves}
use Rattle.std.proofs.lemmas.Option.{slice_get_within}
use Rattle.rt_waves.specs.declared.signals.ModeSignal.TheVariants as signals
use Rattle.rt_waves.specs.Working.Stepped.{plain_of}
use Rattle.rt_waves.specs.Working.Going.{IsGoing, Goes}
use Rattle.rt_waves.proofs.BlockLemmas.{told_line-same}
use Rattle.rt_waves.proofs.SoundLemmas.{Bounded, stays-but, sound-visited, sound-gone, wakes-all-visited}
use Rattle.rt_waves.proofs.VisitLemmas.{quiet-of, visited_one}

-- ---- one task

-- the lines of a task of whose signals only its pc, the part, the budget and the deadline's pulse may change
pub going-lines : (i a b p c q d e o : ℕ) (x : Bool)
    → lines_of Changes i (record { running = true; mode = signals.Active; pc = a; part = p; c = c; d = e; out = o; fresh = false; kept = false; postponed = false; finish = false })
    (record { running = true; mode = signals.Active; pc = b; part = q; c = d; d = e; out = o; fresh = false; kept = false; postponed = x; finish = false })
    ≡ (told_line Changes (Number a) (wave (codes "p" ++ decimal i) (Number b)) ++ told_line Changes (Number p) (wave (codes "s" ++ decimal i) (Number q)))
    ++ (told_line Changes (Number c) (wave (codes "c" ++ decimal i) (Number d)) ++ told_line Changes (Wire false) (wave (codes "x" ++ decimal i) (Wire x)))
going-lines i a b p c q d e o x =
    let pc = told_line Changes (Number a) (wave (codes "p" ++ decimal i) (Number b)) in
    let part = told_line Changes (Number p) (wave (codes "s" ++ decimal i) (Number q)) in
    let budget = told_line Changes (Number c) (wave (codes "c" ++ decimal i) (Number d)) in
    let pulse = told_line Changes (Wire false) (wave (codes "x" ++ decimal i) (Wire x)) in
    let deadline = told_line-same Changes (wave (codes "d" ++ decimal i) (Number e)) (λ is. absurd cc) in
    let output = told_line-same Changes (wave (codes "o" ++ decimal i) (Number o)) (λ is. absurd cc) in
    ap (λ (l : List ℕ). pc ++ (part ++ (budget ++ (l ++ (told_line Changes (Number o) (wave (codes "o" ++ decimal i) (Number o)) ++ (pulse ++ []))))))
    deadline
    ∙ ap (λ (l : List ℕ). pc ++ (part ++ (budget ++ (l ++ (pulse ++ []))))) output
    ∙ ap (λ (l : List ℕ). pc ++ (part ++ (budget ++ l))) (append-nil pulse)
    ∙ sym (append_assoc pc part (budget ++ pulse))

-- its signals where it attempts an instruction that is no call
pub going-seen : (u : ℕ) (x : TaskStanding) → x.serving.mode ≡ Active
    → seen u (Some Next) x ≡ record {
      running = true;
      mode = signals.Active;
      pc = x.pc;
      part = part_begin x.labels x.pc;
      c = x.serving.account.c;
      d = x.serving.account.d;
      out = x.out;
      fresh = false;
      kept = false;
      postponed = postpones Next x.serving.account;
      finish = false;
    }
going-seen u x active = rw active refl

-- its signals where it attempts nothing
pub resting-seen : (u : ℕ) (x : TaskStanding) → x.serving.mode ≡ Active
    → seen u None x ≡ record {
      running = false;
      mode = signals.Active;
      pc = x.pc;
      part = part_begin x.labels x.pc;
      c = x.serving.account.c;
      d = x.serving.account.d;
      out = x.out;
      fresh = false;
      kept = false;
      postponed = false;
      finish = false;
    }
resting-seen u x active = rw active refl

-- a tick uses the budget up where it is the last of it
pub last_tick : (a : Account) → 1 ≤ a.p → nat_le a.c 1 ≡ postpones Next a
last_tick a period =
    elim (cases_Bool (nat_le a.c 1)) [
      | inl is ↦
          let last : (a.c - 1 == 0) ≡ true = grind (arith, nat_tests) in
          let later : nat_lt a.d (a.d + a.p) ≡ true = grind (arith, nat_tests) in
          rw (is, last, later) refl
      | inr more ↦
          let some : (a.c - 1 == 0) ≡ false = grind (arith, nat_tests) in
          let same : nat_lt a.d a.d ≡ false = grind (arith, nat_tests) in
          rw (more, some, same) refl
    ]

-- ---- all tasks

-- behind the first time of the window changes are told
pub telling-changes : (from u : ℕ) → from < u → telling_at from u ≡ Changes
telling-changes from u begun =
    let past : nat_lt u from ≡ false = grind (arith, nat_tests) in
    let other : (u == from) ≡ false = grind (arith, nat_tests) in
    rw (past, other) refl

-- of a record of an instruction that is no call, only the task counts
pub plain-stands : (a : Attempt) (place : Place) (w : WavesState) → a.outcome ≡ Next
    → gone_by (plain_of a.task) place (offered (Busy (plain_of a.task)) w) ≡ gone_by a place (offered (Busy a) w)
plain-stands a place w plain =
    let made : AttemptOutcome → Attempt = λ o. record { task = a.task; pc = 0; word = None; outcome = o } in
    ap (λ (o : AttemptOutcome). gone_by (made o) place (offered (Busy (made o)) w)) (sym plain)

pub plain-block : (a : Attempt) (w : WavesState) → a.outcome ≡ Next → block_by (Busy (plain_of a.task)) w ≡ block_by (Busy a) w
plain-block a w plain =
    let made : AttemptOutcome → Attempt = λ o. record { task = a.task; pc = 0; word = None; outcome = o } in
    ap (λ (o : AttemptOutcome). block_by (Busy (made o)) w) (sym plain)

get-set : (xs : List TaskStanding) (i : ℕ) (x y : TaskStanding) → slice_get xs i ≡ Some x → slice_get (slice_set xs i y) i ≡ Some y
get-set [] i x y there = absurd cc
get-set (z ∷ xs) zero x y there = refl
get-set (z ∷ xs) (suc i) x y there = get-set xs i x y there

set-set : (xs : List TaskStanding) (i : ℕ) (y z : TaskStanding) → slice_set (slice_set xs i y) i z ≡ slice_set xs i z
set-set [] i y z = refl
set-set (x ∷ xs) zero y z = refl
set-set (x ∷ xs) (suc i) y z = ap (λ (ys : List TaskStanding). x ∷ ys) (set-set xs i y z)

module _ (from u w : ℕ) (idle unsettled : Bool) (last : Option ℕ) (xs : List TaskStanding) (a : Attempt) (x : TaskStanding)
    (sound : IsSoundWaves u w unsettled last xs) (goes : Goes from u idle unsettled last xs a.task) (early : u < w) (plain : a.outcome ≡ Next) (there : slice_get xs a.task ≡ Some x) where
  own : outcome_of a.task (Busy a) ≡ Some Next
  own = let same : (a.task == a.task) ≡ true = eq-eqb a.task a.task refl in rw same (ap (λ (o : AttemptOutcome). Some o) plain)

  alone : (visited_all u (Busy a) xs ≡ slice_set xs a.task (visited u (Some Next) x)) × (lines_all Changes u (Busy a) xs ≡ lines_of Changes a.task x.told (seen u (Some Next) x))
  alone =
      let i = a.task in
      let both = visited_one Changes u (Busy a) i xs
      (λ j y here other. quiet-of Changes u (Busy a) j y (λ is. absurd cc)
      (stays-but u w unsettled last (Busy a) xs sound goes.calm early j y here (λ was. other (let same : Some a.task ≡ Some j = sym goes.ran ∙ was in cc)) (λ now. other cc))) in (
        both.0 ∙ ap (λ (f : Option TaskStanding). option_map_or (λ y. slice_set xs i (visited u (outcome_of i (Busy a)) y)) f xs) there
            ∙ ap (λ (o : Option AttemptOutcome). slice_set xs i (visited u o x)) own,
        both.1 ∙ ap (λ (f : Option TaskStanding). option_map_or (λ y. lines_of Changes i y.told (seen u (outcome_of i (Busy a)) y)) f []) there
            ∙ ap (λ (o : Option AttemptOutcome). lines_of Changes i x.told (seen u o x)) own,
      )

  changes : telling_at from u ≡ Changes
  changes = telling-changes from u goes.begun

  -- the block is of its lines alone
  pub going-block : block_by (Busy a) (record { from = from; tick = u; idle = idle; tasks = xs }) ≡ timed u (lines_of Changes a.task x.told (seen u (Some Next) x))
  going-block = rw (changes, goes.busy) (ap (timed u) alone.1)

  -- it alone changes
  pub going-stands : (place : Place) → gone_by a place (offered (Busy a) (record { from = from; tick = u; idle = idle; tasks = xs }))
      ≡ record { from = from; tick = u + 1; idle = idle; tasks = slice_set xs a.task (gone_on u Next place (visited u (Some Next) x)) }
  going-stands place =
      let i = a.task in
      let v = visited u (Some Next) x in
      let W : Bool → List TaskStanding → WavesState = λ b ys. record { from = from; tick = u + 1; idle = b; tasks = ys } in
      let gone : (f : Option TaskStanding) → List TaskStanding = λ f. option_map_or (λ y. slice_set (slice_set xs i v) i (gone_on u a.outcome place y)) f (slice_set xs i v) in
      ap (λ (ys : List TaskStanding). gone_by a place (record { from = from; tick = u; idle = false; tasks = ys })) alone.0
      ∙ ap (λ (f : Option TaskStanding). W false (gone f)) (get-set xs i x v there)
      ∙ ap (λ (o : AttemptOutcome). W false (slice_set (slice_set xs i v) i (gone_on u o place v))) plain
      ∙ ap (W false) (set-set xs i v (gone_on u Next place v))
      ∙ ap (λ (b : Bool). W b (slice_set xs i (gone_on u Next place v))) (sym goes.busy)

  -- what holds of all waves stays so
  pub going-sound : (y : TaskStanding) → u < tick_limit → Bounded (u + 1) y → y.serving.mode ≡ Active → IsSoundWaves (u + 1) w unsettled last (slice_set xs a.task y)
  going-sound y below bounded active =
      let i = a.task in
      let within = slice_get_within xs i x there in
      let seen_all = sound-visited u w w unsettled last (Busy a) xs false sound (wakes-all-visited w u (Busy a) xs sound.wakes) (λ _. early) (λ k is. let same : i ≡ k = cc in omega (arith, same, within)) in
      let known = subst (IsSoundWaves u w false (Some i)) alone.0 seen_all in
      let gone = sound-gone u w w w false false (Some i) (slice_set xs i (visited u (Some Next) x)) i y known below (omega (arith, length_set xs i (visited u (Some Next) x), within)) bounded
      (λ v is. absurd (let no = sym active ∙ is in cc)) (omega arith) (λ _. (refl, refl)) in
      let whole = subst (IsSoundWaves (u + 1) w false (Some i)) (set-set xs i (visited u (Some Next) x) y) gone in
      rw (goes.calm, goes.ran) whole
    where
      length_set : (xs : List TaskStanding) (i : ℕ) (y : TaskStanding) → length (slice_set xs i y) ≡ length xs
      length_set [] i y = refl
      length_set (x ∷ xs) zero y = refl
      length_set (x ∷ xs) (suc i) y = ap suc (length_set xs i y)

  -- and it is the one that is going, if it is
  pub going-on : (y : TaskStanding) → IsGoing y → Goes from (u + 1) idle unsettled last (slice_set xs a.task y) a.task
  going-on y is = record {
    begun = let begun = goes.begun in omega arith;
    busy = goes.busy;
    calm = goes.calm;
    ran = goes.ran;
    task = λ z here. let same : Some y ≡ Some z = sym (get-set xs a.task x y there) ∙ here in let equal : y ≡ z = cc in subst IsGoing equal is;
  }
