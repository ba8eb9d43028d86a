-- A search for failures over the tasks of a set.
use Rattle.rt_accounts.proofs.Common.{◌≡◌, ℕ, ◌+◌, ◌<◌, ◌≤◌, Bool, true, false, List, [], length, refl, ap, ◌∙◌, arith, TaskSet, legal, state_at}
use Rattle.std.proofs.Common.{zero, suc, ◌-◌, ◌∷◌, map, slice_get, Option, Some, None, add-zero}
use Rattle.std.specs.Prelude.{find}
use Rattle.std.specs.List.{range_with_len, enumerate_from}
use Rattle.std.specs.Option.{option_map_or}
use Rattle.rt_image.specs.SystemFile.{SetTask}
use Rattle.rt_history.specs.declared.record.Record.{Record}
use Rattle.rt_history.specs.OwnPart.{TaskState, own, task_state}
use Rattle.rt_history.specs.MachineState.{MachineState}
use Rattle.rt_history.proofs.Steps.{tasks-count}
use Rattle.rt_report.specs.declared.failing.Failing.TheVariants as failing
use Rattle.rt_report.specs.Failures.{fails_by}
use Rattle.rt_accounts.specs.Failures.{has_happened}

-- a machine has as many tasks as its set
pub many : (set : TaskSet) (t : ℕ) (m : MachineState) → m ≡ state_at set t → (count : ℕ) → count ≡ length m.tasks → count ≡ length set.tasks
many set t m stands count is = is ∙ ap (λ (x : MachineState). length x.tasks) stands ∙ tasks-count set t

-- from a task on that is there, the search is over that one and those behind it
from : (i n : ℕ) → i < n → range_with_len i (n - i) ≡ i ∷ range_with_len (i + 1) (n - (i + 1))
from i n less =
    let left : n - i ≡ suc (n - (i + 1)) = omega (arith, less) in
    rw left refl

-- it passes one that doesn't
pub passes : (test : ℕ → Bool) (i n : ℕ) → i < n → test i ≡ false → find test (range_with_len i (n - i)) ≡ find test (range_with_len (i + 1) (n - (i + 1)))
passes test i n less not = rw (from i n less, not) refl

-- it ends at one that does
pub ends : (test : ℕ → Bool) (i n : ℕ) → i < n → test i ≡ true → find test (range_with_len i (n - i)) ≡ Some i
ends test i n less is = rw (from i n less, is) refl

-- and behind the last
pub ends-behind : (test : ℕ → Bool) (i n : ℕ) → n ≤ i → find test (range_with_len i (n - i)) ≡ None
ends-behind test i n behind =
    let none : n - i ≡ 0 = omega (arith, behind) in
    rw none refl

-- ---- a write that was refused since the output had no room for it

full-from : (t : ℕ) (h : List Record) (i k : ℕ) (ss : List SetTask)
    → option_map_or (λ (x : TaskState). x.program.full) (slice_get (map (λ n. task_state t h n.0 n.1) (enumerate_from i ss)) k) false
    ≡ option_map_or (λ s. fails_by failing.Lost t s (own (i + k) h)) (slice_get ss k) false
full-from t h i k [] = refl
full-from t h i zero (s ∷ ss) = rw add-zero refl
full-from t h i (suc k) (s ∷ ss) =
    let at : (i + 1) + k ≡ i + suc k = omega arith in
    full-from t h (i + 1) k ss ∙ ap (λ (m : ℕ). option_map_or (λ s. fails_by failing.Lost t s (own m h)) (slice_get ss k) false) at

pub full_is : (set : TaskSet) (t i : ℕ) (m : MachineState) → m ≡ state_at set t
    → option_map_or (λ (x : TaskState). x.program.full) (slice_get m.tasks i) false ≡ has_happened failing.Lost set t i
unfolding state_at
full_is set t i m stands =
    let h = legal set t in
    let place : 0 + i ≡ i = omega arith in
    ap (λ (x : MachineState). option_map_or (λ (y : TaskState). y.program.full) (slice_get x.tasks i) false) stands
    ∙ full-from t h 0 i set.tasks
    ∙ ap (λ (k : ℕ). option_map_or (λ s. fails_by failing.Lost t s (own k h)) (slice_get set.tasks i) false) place
