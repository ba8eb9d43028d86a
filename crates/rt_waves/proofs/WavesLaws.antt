-- Waves over an entry stand where the legal history stands, and tell the blocks of its times.
use Rattle.rt_waves.proofs.Common.{◌≡◌, ℕ, ◌+◌, ◌-◌, ◌<◌, ◌≤◌, ◌==◌, nat_lt, Bool, true, false, ◌&&◌, cond, List, [], ◌++◌, length, slice_get, slice_set, Option, Some, None, inl, inr, refl, sym, ap, subst, ◌∙◌, arith, flat_map, range_with_len, option_map_or, length-set, cases_Bool, cases_lt, eqb-true, nat_tests, TaskSet, Attempt, Record, Idle, Busy, GoesOnBy, due, task_state, record_at, legal, state_at, is_idle, Place, outcome_of, TaskStanding, WavesState, idle_before, waves_at, told_block, visited_all, gone_on, gone_at, gone_by, offered, block_by}
use Rattle.std.proofs.lemmas.List.{append-nil}
use Rattle.rt_history.specs.declared.record.Entry.TheVariants as entries
use Rattle.rt_history.proofs.Steps.{state-of}
use Rattle.rt_history.proofs.TakenLaws.{legal-taken}
use Rattle.rt_waves.specs.Standing.{IsAtPlace}
use Rattle.rt_waves.specs.Working.Stepped.{passed_to, text_to, passed_idle, passed_text}
use Rattle.rt_waves.proofs.SoundLemmas.{length-visited}
use Rattle.rt_waves.proofs.StepLaws.{IsTakenBy, behind_of}
use Rattle.rt_waves.proofs.StateLaws.{standing_from, record-is, idle-next, waves-busy, waves-idle}
use Rattle.rt_waves.proofs.TextLaws.{AreTaken, block-is}
use Rattle.rt_waves.proofs.IdleLaws.{IsIdleFrom, stretch-still, stretch-text, stretch-text-within, entry-idle}

-- ---- a busy tick

taken-busy : (set : TaskSet) (t u : ℕ) (a : Attempt) → GoesOnBy set t (entries.Busy u a) → AreTaken set t 0 set.tasks
unfolding state_at
taken-busy set t u a goes = λ k s there.
    let at : 0 + k ≡ k = omega arith in
    let is = record-is set t u a goes in
    let account = (due t (behind_of set t (0 + k) s)).account in
    let one : IsTakenBy account (outcome_of (0 + k) (Busy a)) =
    elim (cases_Bool (a.task == 0 + k)) [
      | inl own ↦
          let task : a.task ≡ k = eqb-true a.task (0 + k) own ∙ at in
          let stands : slice_get (state_at set t).tasks a.task ≡ Some (task_state t (legal set t) (0 + k) s) =
          ap (slice_get (state_at set t).tasks) task ∙ state-of set t k s there ∙ ap (λ (j : ℕ). Some (task_state t (legal set t) j s)) (sym at) in
          rw own (legal-taken set t (entries.Busy u a) goes (task_state t (legal set t) (0 + k) s) stands)
      | inr other ↦ rw other tt
    ] in
    subst (λ (r : Record). IsTakenBy account (outcome_of (0 + k) r)) (sym is) one

pub told-busy : (set : TaskSet) (from t u : ℕ) (a : Attempt) → GoesOnBy set t (entries.Busy u a) → block_by (Busy a) (waves_at set from t) ≡ told_block set from t
unfolding waves_at
told-busy set from t u a goes =
    ap (λ (r : Record). block_by r (waves_at set from t)) (sym (record-is set t u a goes)) ∙ block-is set from t (taken-busy set t u a goes)

pub stands-busy : (set : TaskSet) (from t u : ℕ) (a : Attempt) (place : Place) → GoesOnBy set t (entries.Busy u a) → IsAtPlace set (t + 1) a.task place
    → gone_by a place (offered (Busy a) (waves_at set from t)) ≡ waves_at set from (t + 1)
unfolding waves_at
stands-busy set from t u a place goes stop = sym (waves-busy set from t u a place goes stop)

-- ---- idle ticks

taken-idle : (set : TaskSet) (t : ℕ) → record_at (state_at set t) ≡ Idle → AreTaken set t 0 set.tasks
taken-idle set t is = λ k s there. subst (λ (r : Record). IsTakenBy (due t (behind_of set t (0 + k) s)).account (outcome_of (0 + k) r)) (sym is) tt

told-idle : (set : TaskSet) (from t : ℕ) → record_at (state_at set t) ≡ Idle → block_by Idle (waves_at set from t) ≡ told_block set from t
unfolding waves_at
told-idle set from t is = ap (λ (r : Record). block_by r (waves_at set from t)) (sym is) ∙ block-is set from t (taken-idle set t is)

-- the tasks behind an idle tick
visited-idle : (set : TaskSet) (t : ℕ) → record_at (state_at set t) ≡ Idle → visited_all t Idle (standing_from set t 0 set.tasks) ≡ standing_from set (t + 1) 0 set.tasks
unfolding waves_at
visited-idle set t is = sym (ap (λ (w : WavesState). w.tasks) (waves-idle set 0 t is))

-- an idle stretch that has begun
abbrev idly : ℕ → ℕ → List TaskStanding → WavesState
idly from t xs = record { from = from; tick = t; idle = true; tasks = xs }

first-of : (set : TaskSet) (t n : ℕ) → IsIdleFrom set t n → 1 ≤ n → record_at (state_at set t) ≡ Idle
first-of set t n idle some = let at : t + 0 ≡ t = omega arith in subst (λ (u : ℕ). record_at (state_at set u) ≡ Idle) at (idle.each 0 some)

offered-idle : (set : TaskSet) (from t : ℕ) → record_at (state_at set t) ≡ Idle → offered Idle (waves_at set from t) ≡ idly from t (standing_from set (t + 1) 0 set.tasks)
unfolding waves_at
offered-idle set from t is = ap (idly from t) (visited-idle set t is)

-- the waves at a later tick of the stretch
at-tick : (set : TaskSet) (from t n m : ℕ) → IsIdleFrom set t n → m < n → waves_at set from (t + m + 1) ≡ idly from (t + m + 1) (standing_from set (t + 1) 0 set.tasks)
unfolding waves_at
at-tick set from t n m idle below =
    let flag : idle_before set (t + m + 1) ≡ true = idle-next set (t + m) ∙ ap is_idle (idle.each m below) in
    ap (λ (b : Bool). record { from = from; tick = t + m + 1; idle = b; tasks = standing_from set (t + m + 1) 0 set.tasks }) flag
    ∙ ap (idly from (t + m + 1)) (stretch-still set t n m idle below)

at-from : (set : TaskSet) (from t n : ℕ) → IsIdleFrom set t n → t < from → from < t + n → waves_at set from from ≡ idly from from (standing_from set (t + 1) 0 set.tasks)
at-from set from t n idle after before =
    let m : ℕ = from - t - 1 in
    let at : t + m + 1 ≡ from = omega arith in
    subst (λ (u : ℕ). waves_at set from u ≡ idly from u (standing_from set (t + 1) 0 set.tasks)) at (at-tick set from t n m idle (omega arith))

idle-at : (set : TaskSet) (from t n : ℕ) → IsIdleFrom set t n → t < from → from < t + n → record_at (state_at set from) ≡ Idle
idle-at set from t n idle after before =
    let at : t + (from - t) ≡ from = omega arith in
    subst (λ (u : ℕ). record_at (state_at set u) ≡ Idle) at (idle.each (from - t) (omega arith))

-- and behind its time
still-at : (set : TaskSet) (from t n : ℕ) → IsIdleFrom set t n → t < from → from < t + n
    → visited_all from Idle (standing_from set (t + 1) 0 set.tasks) ≡ standing_from set (t + 1) 0 set.tasks
still-at set from t n idle after before =
    let m : ℕ = from - t - 1 in
    let at : t + m + 1 ≡ from = omega arith in
    let here : standing_from set from 0 set.tasks ≡ standing_from set (t + 1) 0 set.tasks =
    subst (λ (u : ℕ). standing_from set u 0 set.tasks ≡ standing_from set (t + 1) 0 set.tasks) at (stretch-still set t n m idle (omega arith)) in
    let next : t + (from - t) + 1 ≡ from + 1 = omega arith in
    ap (visited_all from Idle) (sym here) ∙ visited-idle set from (idle-at set from t n idle after before)
    ∙ ap (λ (u : ℕ). standing_from set u 0 set.tasks) (sym next) ∙ stretch-still set t n (from - t) idle (omega arith)

within_is : (t from end : ℕ) → t < from → from < end → (nat_lt t from && nat_lt from end) ≡ true
within_is t from end after before =
    let one : nat_lt t from ≡ true = grind (arith, nat_tests) in
    let two : nat_lt from end ≡ true = grind (arith, nat_tests) in
    rw (one, two) refl

outside_is : (t from end : ℕ) → (nat_lt t from && nat_lt from end) ≡ false → t < from → from < end → ⊥
outside_is t from end isn't after before = let within = within_is t from end after before in absurd cc

within_parts : (t from end : ℕ) → (nat_lt t from && nat_lt from end) ≡ true → (t < from) × (from < end)
within_parts t from end is =
    elim (cases_lt t from) [
      | inl after ↦ elim (cases_lt from end) [
        | inl before ↦ (after, before)
        | inr past ↦ absurd (let one : nat_lt t from ≡ true = grind (arith, nat_tests) in let two : nat_lt from end ≡ false = grind (arith, nat_tests) in let isn't : (nat_lt t from && nat_lt from end) ≡ false = rw (one, two) refl in cc)
      ]
      | inr early ↦ absurd (let one : nat_lt t from ≡ false = grind (arith, nat_tests) in let isn't : (nat_lt t from && nat_lt from end) ≡ false = rw one refl in cc)
    ]

passed-is : (set : TaskSet) (from t n : ℕ) → IsIdleFrom set t n → (passed_to (t + n) (idly from t (standing_from set (t + 1) 0 set.tasks))).tasks ≡ standing_from set (t + 1) 0 set.tasks
passed-is set from t n idle =
    let xs = standing_from set (t + 1) 0 set.tasks in
    elim (cases_Bool (nat_lt t from && nat_lt from (t + n))) [
      | inl is ↦ let parts = within_parts t from (t + n) is in rw is (still-at set from t n idle parts.0 parts.1)
      | inr no_is ↦ rw no_is refl
    ]

passed-rest : (set : TaskSet) (from t n : ℕ) (xs : List TaskStanding) → record (passed_to (t + n) (idly from t xs)) { tick = t + n } ≡ idly from (t + n) (passed_to (t + n) (idly from t xs)).tasks
passed-rest set from t n xs =
    elim (nat_lt t from && nat_lt from (t + n)) as (λ b. record (cond b (offered Idle (idly from from xs)) (idly from t xs)) { tick = t + n } ≡ idly from (t + n) (cond b (offered Idle (idly from from xs)) (idly from t xs)).tasks) [
      | true ↦ refl
      | false ↦ refl
    ]

first-steps : (set : TaskSet) (from t n : ℕ) → IsIdleFrom set t n → 1 ≤ n → passed_idle n (waves_at set from t) ≡ record (passed_to (t + n) (idly from t (standing_from set (t + 1) 0 set.tasks))) { tick = t + n }
unfolding waves_at
first-steps set from t n idle some = ap (λ (w : WavesState). record (passed_to (t + n) w) { tick = t + n }) (offered-idle set from t (first-of set t n idle some))

pub stands-idle : (set : TaskSet) (from t u n : ℕ) → GoesOnBy set t (entries.Idle u n) → 1 ≤ n → passed_idle n (waves_at set from t) ≡ waves_at set from (t + n)
stands-idle set from t u n goes some =
    let idle = entry-idle set t u n goes in
    let xs = standing_from set (t + 1) 0 set.tasks in
    let m : ℕ = n - 1 in
    let at : t + m + 1 ≡ t + n = omega arith in
    let end : waves_at set from (t + n) ≡ idly from (t + n) xs = subst (λ (v : ℕ). waves_at set from v ≡ idly from v xs) at (at-tick set from t n m idle (omega arith)) in
    first-steps set from t n idle some ∙ passed-rest set from t n xs ∙ ap (idly from (t + n)) (passed-is set from t n idle) ∙ sym end

text-is : (set : TaskSet) (from t n : ℕ) → IsIdleFrom set t n → text_to (t + n) (idly from t (standing_from set (t + 1) 0 set.tasks)) ≡ cond (nat_lt t from && nat_lt from (t + n)) (told_block set from from) []
text-is set from t n idle =
    elim (cases_Bool (nat_lt t from && nat_lt from (t + n))) [
      | inl is ↦
          let parts = within_parts t from (t + n) is in
          rw is (ap (block_by Idle) (sym (at-from set from t n idle parts.0 parts.1)) ∙ told-idle set from from (idle-at set from t n idle parts.0 parts.1))
      | inr no_is ↦ rw no_is refl
    ]

first-text : (set : TaskSet) (from t n : ℕ) → IsIdleFrom set t n → 1 ≤ n
    → passed_text n (waves_at set from t) ≡ told_block set from t ++ text_to (t + n) (idly from t (standing_from set (t + 1) 0 set.tasks))
unfolding waves_at
first-text set from t n idle some =
    let is = first-of set t n idle some in
    ap (λ (zs : List ℕ). zs ++ text_to (t + n) (offered Idle (waves_at set from t))) (told-idle set from t is)
    ∙ ap (λ (w : WavesState). told_block set from t ++ text_to (t + n) w) (offered-idle set from t is)

pub text-idle : (set : TaskSet) (from t u n : ℕ) → GoesOnBy set t (entries.Idle u n) → 1 ≤ n → passed_text n (waves_at set from t) ≡ flat_map (told_block set from) (range_with_len t n)
text-idle set from t u n goes some =
    let idle = entry-idle set t u n goes in
    first-text set from t n idle some
    ∙ ap (λ (zs : List ℕ). told_block set from t ++ zs) (text-is set from t n idle)
    ∙ elim (cases_Bool (nat_lt t from && nat_lt from (t + n))) [
      | inl is ↦ let parts = within_parts t from (t + n) is in rw is (sym (stretch-text-within set from t n idle parts.0 parts.1))
      | inr no_is ↦ rw no_is (append-nil (told_block set from t) ∙ sym (stretch-text set from t n idle some (outside_is t from (t + n) no_is)))
    ]

-- ---- how many tasks there are

length-gone : (t : ℕ) (a : Attempt) (place : Place) (xs : List TaskStanding) → length (gone_at t a place xs) ≡ length xs
length-gone t a place xs = by (slice_get xs a.task)
  where
    by : (found : Option TaskStanding) → length (option_map_or (λ x. slice_set xs a.task (gone_on t a.outcome place x)) found xs) ≡ length xs
    by None = refl
    by (Some x) = length-set xs a.task (gone_on t a.outcome place x)

pub count-offered : (r : Record) (w : WavesState) → length (offered r w).tasks ≡ length w.tasks
count-offered r w = length-visited w.tick r w.tasks

pub count-gone : (a : Attempt) (place : Place) (w : WavesState) → length (gone_by a place w).tasks ≡ length w.tasks
count-gone a place w = length-gone w.tick a place w.tasks

pub count-passed : (n : ℕ) (w : WavesState) → length (passed_idle n w).tasks ≡ length w.tasks
count-passed n w = by (nat_lt w.tick w.from && nat_lt w.from (w.tick + n))
  where
    by : (b : Bool) → length (cond b (offered Idle (record (offered Idle w) { tick = w.from })) (offered Idle w)).tasks ≡ length w.tasks
    by true = count-offered Idle (record (offered Idle w) { tick = w.from }) ∙ count-offered Idle w
    by false = count-offered Idle w
