-- An idle stretch of the legal history: all signals stay as they are at its first tick.
use Rattle.rt_waves.proofs.Common.{◌≡◌, ℕ, zero, suc, ◌+◌, ◌-◌, ◌<◌, ◌≤◌, ◌==◌, nat_lt, Bool, true, false, cond, List, [], ◌∷◌, ◌++◌, length, map, get_or, slice_get, Option, Some, None, inl, inr, refl, sym, ap, subst, ◌∙◌, arith, flat_map, range_with_len, enumerate_from, cases_lt, nat_tests, SetTask, TaskSet, Mode, Active, Asleep, Record, Idle, Busy, GoesOnBy, Serving, task_state, record_at, legal, state_at, is_idle, Changes, TaskWaves, outcome_of, task_waves, Waves, waves, Wave, values, timed, changed_lines, block, TaskStanding, told_before, task_standing, told_block, visited}
use Rattle.std.proofs.Common.{replicate, get_or-append-add, IsSome}
use Rattle.std.proofs.lemmas.List.{append-nil}
use Rattle.rt_queue.specs.Least.{IsLeast}
use Rattle.rt_queue.proofs.LeastLemmas.{IsLeast-of_least_from}
use Rattle.rt_history.specs.declared.record.Entry.TheVariants as entries
use Rattle.rt_history.specs.OwnPart.{TaskState}
use Rattle.rt_history.specs.MachineState.{MachineState}
use Rattle.rt_history.specs.Named.{deadline_in, deadline, named}
use Rattle.rt_history.proofs.NamedLaws.{key-found}
use Rattle.rt_history.proofs.ServingLaws.{due-woken}
use Rattle.rt_history.proofs.Steps.{busy-named, state-of, length-legal, record-in-legal}
use Rattle.rt_waves.specs.Working.Stepped.{rest}
use Rattle.rt_waves.proofs.BlockLemmas.{told-same, told-changes, range-append}
use Rattle.rt_waves.proofs.SoundLemmas.{stays, told-rest}
use Rattle.rt_waves.proofs.StepLaws.{task-other, due-before, behind_of}
use Rattle.rt_waves.proofs.StateLaws.{standing_from}

-- ---- at an idle tick no task is active

none-active : (m : MachineState) (i : ℕ) (x : TaskState) → record_at m ≡ Idle → slice_get m.tasks i ≡ Some x → x.serving.mode ≡ Active → ⊥
none-active m i x idle there active = by (named m.tasks) refl
  where
    by : (r : Option (ℕ × ℕ)) → named m.tasks ≡ r → ⊥
    by (Some least) is =
        let busy = busy-named m (subst IsSome (sym is) refl) in
        absurd (let no : Idle ≡ Busy busy.0 = sym idle ∙ busy.1 in cc)
    by None is =
        let least : IsLeast (map deadline m.tasks) None = IsLeast-of_least_from (map deadline m.tasks) None (sym is) in
        let key : deadline x ≡ None = sym (key-found deadline m.tasks i x there) ∙ least i in
        let some : deadline x ≡ Some x.serving.account.d = ap (λ (k : Mode). deadline_in k x.serving.account.d) active in
        absurd cc

-- so none that is asleep has woken
later-at : (set : TaskSet) (u i : ℕ) (s : SetTask) → record_at (state_at set u) ≡ Idle → slice_get set.tasks i ≡ Some s → (w : ℕ) → (task_standing set u i s).serving.mode ≡ Asleep w → u < w
later-at set u i s idle there w asleep =
    let x = task_standing set u i s in
    elim (cases_lt u w) [
      | inl early ↦ early
      | inr come ↦
          let woke = due-woken u w x.serving.mode x.serving.account asleep come in
          let active : (task_state u (legal set u) i s).serving.mode ≡ Active = ap (λ (z : Serving). z.mode) (sym (due-before u (behind_of set u i s)) ∙ woke) in
          absurd (none-active (state_at set u) i (task_state u (legal set u) i s) idle (state-of set u i s there) active)
    ]

-- ---- two idle ticks

still : (set : TaskSet) (u i : ℕ) (s : SetTask) → record_at (state_at set u) ≡ Idle → record_at (state_at set (u + 1)) ≡ Idle → slice_get set.tasks i ≡ Some s
    → task_standing set (u + 1 + 1) i s ≡ task_standing set (u + 1) i s
still set u i s first second there =
    let x = task_standing set u i s in
    let y = task_standing set (u + 1) i s in
    let one : y ≡ visited u None x = task-other set u i s (ap (outcome_of i) first) in
    let rested : y.told ≡ rest y = subst (λ (z : TaskStanding). z.told ≡ rest z) (sym one) (told-rest u x (later-at set u i s first there)) in
    task-other set (u + 1) i s (ap (outcome_of i) second) ∙ stays (u + 1) y (later-at set (u + 1) i s second there) rested

still-from : (set : TaskSet) (t v i : ℕ) (ss : List SetTask) → ((k : ℕ) (s : SetTask) → slice_get ss k ≡ Some s → task_standing set t (i + k) s ≡ task_standing set v (i + k) s)
    → standing_from set t i ss ≡ standing_from set v i ss
still-from set t v i [] same = refl
still-from set t v i (s ∷ ss) same =
    let at : i + 0 ≡ i = omega arith in
    let first : task_standing set t i s ≡ task_standing set v i s = subst (λ (j : ℕ). task_standing set t j s ≡ task_standing set v j s) at (same 0 s refl) in
    let others = still-from set t v (i + 1) ss
    (λ k z there. let on : i + suc k ≡ (i + 1) + k = omega arith in subst (λ (j : ℕ). task_standing set t j z ≡ task_standing set v j z) on (same (suc k) z there)) in
    ap (λ (x : TaskStanding). x ∷ standing_from set t (i + 1) ss) first ∙ ap (λ (xs : List TaskStanding). task_standing set v i s ∷ xs) others

still-all : (set : TaskSet) (u : ℕ) → record_at (state_at set u) ≡ Idle → record_at (state_at set (u + 1)) ≡ Idle
    → standing_from set (u + 1 + 1) 0 set.tasks ≡ standing_from set (u + 1) 0 set.tasks
still-all set u first second =
    still-from set (u + 1 + 1) (u + 1) 0 set.tasks (λ k s there. still set u (0 + k) s first second (let at : 0 + k ≡ k = omega arith in subst (λ (j : ℕ). slice_get set.tasks j ≡ Some s) (sym at) there))

told-of : (set : TaskSet) (u i : ℕ) (ss : List SetTask) → map (λ x. x.told) (standing_from set (u + 1) i ss) ≡ map (λ n. task_waves set u n.0 n.1) (enumerate_from i ss)
told-of set u i [] = refl
told-of set u i (s ∷ ss) =
    let next : u + 1 ≡ suc u = omega arith in
    ap (λ (w : TaskWaves). w ∷ map (λ x. x.told) (standing_from set (u + 1) (i + 1) ss)) (ap (λ (n : ℕ). told_before set n i s) next)
    ∙ ap (λ (ws : List TaskWaves). task_waves set u i s ∷ ws) (told-of set u (i + 1) ss)

waves-still : (set : TaskSet) (u : ℕ) → record_at (state_at set u) ≡ Idle → record_at (state_at set (u + 1)) ≡ Idle → waves set (u + 1) ≡ waves set u
waves-still set u first second =
    let tasks : (waves set (u + 1)).tasks ≡ (waves set u).tasks = sym (told-of set (u + 1) 0 set.tasks) ∙ ap (map (λ x. x.told)) (still-all set u first second) ∙ told-of set u 0 set.tasks in
    let idle : is_idle (record_at (state_at set (u + 1))) ≡ is_idle (record_at (state_at set u)) = ap is_idle (second ∙ sym first) in
    ap (λ (b : Bool). record { idle = b; tasks = (waves set (u + 1)).tasks }) idle ∙ ap (λ (ws : List TaskWaves). record { idle = is_idle (record_at (state_at set u)); tasks = ws }) tasks

changed-same : (xs : List Wave) → changed_lines xs xs ≡ []
changed-same xs = sym (told-changes xs xs) ∙ told-same Changes xs (λ is. cc)

-- the second is told nothing of, unless the window begins there
silent : (set : TaskSet) (from u : ℕ) → record_at (state_at set u) ≡ Idle → record_at (state_at set (u + 1)) ≡ Idle → (u + 1 ≡ from → ⊥) → told_block set from (u + 1) ≡ []
silent set from u first second other =
    let no : (u + 1 == from) ≡ false = grind (arith, nat_tests) in
    let at : u + 1 - 1 ≡ u = omega arith in
    let same = waves-still set u first second in
    let none : timed (u + 1) (changed_lines (values (waves set (u + 1 - 1))) (values (waves set (u + 1)))) ≡ [] =
    ap (timed (u + 1)) (ap (λ (v : ℕ). changed_lines (values (waves set v)) (values (waves set (u + 1)))) at
    ∙ ap (λ (w : Waves). changed_lines (values (waves set u)) (values w)) same ∙ changed-same (values (waves set u))) in
    elim (nat_lt (u + 1) from) as (λ b. cond b [] (block set from (u + 1)) ≡ []) [ true ↦ refl | false ↦ rw no none ]

-- ---- a stretch of idle ticks from t on

pub record IsIdleFrom (set : TaskSet) (t n : ℕ) : Type 0 where
  pub each : (k : ℕ) → k < n → record_at (state_at set (t + k)) ≡ Idle

pub stretch-still : (set : TaskSet) (t n m : ℕ) → IsIdleFrom set t n → m < n → standing_from set (t + m + 1) 0 set.tasks ≡ standing_from set (t + 1) 0 set.tasks
stretch-still set t n zero idle below = let at : t + zero + 1 ≡ t + 1 = omega arith in ap (λ (u : ℕ). standing_from set u 0 set.tasks) at
stretch-still set t n (suc m) idle below =
    let at : t + suc m + 1 ≡ t + m + 1 + 1 = omega arith in
    let next : t + suc m ≡ t + m + 1 = omega arith in
    let second : record_at (state_at set (t + m + 1)) ≡ Idle = subst (λ (u : ℕ). record_at (state_at set u) ≡ Idle) next (idle.each (suc m) below) in
    ap (λ (u : ℕ). standing_from set u 0 set.tasks) at ∙ still-all set (t + m) (idle.each m (omega arith)) second ∙ stretch-still set t n m idle (omega arith)

-- its ticks from the k-th on tell nothing, if the window doesn't begin among them
quiet-from : (set : TaskSet) (from t n k m : ℕ) → IsIdleFrom set t n → 1 ≤ k → k + m ≤ n → ((j : ℕ) → j < m → t + k + j ≡ from → ⊥)
    → flat_map (told_block set from) (range_with_len (t + k) m) ≡ []
quiet-from set from t n k zero idle some within other = refl
quiet-from set from t n zero (suc m) idle some within other = absurd (omega arith)
quiet-from set from t n (suc k) (suc m) idle some within other =
    let at : t + suc k ≡ t + k + 1 = omega arith in
    let on : t + suc k + 1 ≡ t + suc (suc k) = omega arith in
    let second : record_at (state_at set (t + k + 1)) ≡ Idle = subst (λ (u : ℕ). record_at (state_at set u) ≡ Idle) at (idle.each (suc k) (omega arith)) in
    let here : told_block set from (t + suc k) ≡ [] = ap (told_block set from) at ∙ silent set from (t + k) (idle.each k (omega arith)) second (λ is. other 0 (omega arith) (omega (arith, is))) in
    ap (λ (zs : List ℕ). zs ++ flat_map (told_block set from) (range_with_len (t + suc k + 1) m)) here
    ∙ ap (λ (u : ℕ). flat_map (told_block set from) (range_with_len u m)) on
    ∙ quiet-from set from t n (suc (suc k)) m idle (omega arith) (omega arith) (λ j below is. other (suc j) (omega arith) (omega (arith, is)))

-- what is told of a stretch, where the window doesn't begin behind its first tick
pub stretch-text : (set : TaskSet) (from t n : ℕ) → IsIdleFrom set t n → 1 ≤ n → (t < from → from < t + n → ⊥) → flat_map (told_block set from) (range_with_len t n) ≡ told_block set from t
stretch-text set from t zero idle some outside = absurd (omega arith)
stretch-text set from t (suc m) idle some outside =
    ap (λ (zs : List ℕ). told_block set from t ++ zs)
    (quiet-from set from t (suc m) 1 m idle (omega arith) (omega arith) (λ j below is. outside (omega (arith, is)) (omega (arith, is))))
    ∙ append-nil (told_block set from t)

-- and where it does
pub stretch-text-within : (set : TaskSet) (from t n : ℕ) → IsIdleFrom set t n → t < from → from < t + n
    → flat_map (told_block set from) (range_with_len t n) ≡ told_block set from t ++ told_block set from from
stretch-text-within set from t n idle after before =
    let f = told_block set from in
    let k : ℕ = from - t in
    let m : ℕ = t + n - from in
    let whole : n ≡ k + m = omega arith in
    let place : t + k ≡ from = omega arith in
    ap (λ (j : ℕ). flat_map f (range_with_len t j)) whole ∙ range-append f t k m
    ∙ ap (λ (zs : List ℕ). zs ++ flat_map f (range_with_len (t + k) m))
    (stretch-text set from t k (record { each = λ j below. idle.each j (omega arith) }) (omega arith) (λ a b. omega (arith, a, b)))
    ∙ ap (λ (u : ℕ). f t ++ flat_map f (range_with_len u m)) place
    ∙ ap (λ (zs : List ℕ). f t ++ zs)
    (stretch-text set from from m (record { each = λ j below. let on : t + (k + j) ≡ from + j = omega arith in subst (λ (u : ℕ). record_at (state_at set u) ≡ Idle) on (idle.each (k + j) (omega arith)) }) (omega arith) (λ a b. omega (arith, a)))

-- ---- the legal history goes on by an idle entry

in-replicate : (n k : ℕ) → get_or (replicate n Idle) k Idle ≡ Idle
in-replicate zero k = refl
in-replicate (suc n) zero = refl
in-replicate (suc n) (suc k) = in-replicate n k

pub entry-idle : (set : TaskSet) (t u n : ℕ) → GoesOnBy set t (entries.Idle u n) → IsIdleFrom set t n
entry-idle set t u n goes = record {
  each = λ k below.
      let left : ℕ = n - k - 1 in
      let whole : t + k + 1 + left ≡ t + n = omega arith in
      let place : t + k ≡ length (legal set t) + k = omega (arith, length-legal set t) in
      sym (record-in-legal set (t + k) left)
      ∙ ap (λ (j : ℕ). get_or (legal set j) (t + k) Idle) whole
      ∙ ap (λ (h : List Record). get_or h (t + k) Idle) goes
      ∙ ap (λ (j : ℕ). get_or (legal set t ++ replicate n Idle) j Idle) place
      ∙ get_or-append-add (legal set t) (replicate n Idle) k Idle
      ∙ in-replicate n k;
}
