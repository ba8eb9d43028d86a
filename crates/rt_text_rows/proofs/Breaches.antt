-- The first breach of two sets, by how all tasks stand after 12 ticks.
use Rattle.std.proofs.Common.{ℕ, zero, suc, ◌<◌, slice_get, Some, ◌≡◌, refl, subst, lit<, lit≤, arith}
use Rattle.rt_history.specs.Busy.{busy, busy_at}
use Rattle.rt_history.specs.OwnPart.{TaskState, task_state}
use Rattle.rt_history.specs.Fit.{TaskFits}
use Rattle.rt_history.specs.MachineState.{MachineState}
use Rattle.rt_image.specs.SystemFile.{SetTask, TaskSet}
use Rattle.rt_laws.specs.breach.Breach.{IsFirstBreach}
use Rattle.rt_rows.specs.Sets.{task, busy as busy_words}
use Rattle.rt_text_rows.specs.Overloads.{two_thirds_and_half, half_misses, all_and_one, one_misses}
use Rattle.rt_text_rows.proofs.Computing.{computing}

-- what holds of task 0 holds of each task before task 1
before_one : (m : MachineState) (first : TaskState) → slice_get m.tasks 0 ≡ Some first → TaskFits m.tick first
    → (i : ℕ) (x : TaskState) → i < 1 → slice_get m.tasks i ≡ Some x → TaskFits m.tick x
before_one m first there fits zero x below is = let same : first ≡ x = cc in subst (TaskFits m.tick) same fits
before_one m first there fits (suc i) x below is = absurd (omega (arith, below))

-- how task i of a set stands after 12 ticks
abbrev stands : TaskSet → ℕ → SetTask → TaskState
stands set i s = task_state 12 (busy set 12) i s

half_first : TaskFits 12 (stands two_thirds_and_half 0 (task 2 3 busy_words))
unfolding computing busy
half_first = λ active. lit≤ tt

pub half_is_first : IsFirstBreach (busy_at two_thirds_and_half 12) half_misses
unfolding computing busy busy_at
half_is_first = record {
  task = stands two_thirds_and_half 1 (task 2 4 busy_words);
  there = refl;
  active = refl;
  c = refl;
  d = refl;
  exceeds = lit< tt;
  first = before_one (busy_at two_thirds_and_half 12) (stands two_thirds_and_half 0 (task 2 3 busy_words)) refl half_first;
}

one_first : TaskFits 12 (stands all_and_one 0 (task 3 3 busy_words))
unfolding computing busy
one_first = λ active. lit≤ tt

pub one_is_first : IsFirstBreach (busy_at all_and_one 12) one_misses
unfolding computing busy busy_at
one_is_first = record {
  task = stands all_and_one 1 (task 1 12 busy_words);
  there = refl;
  active = refl;
  c = refl;
  d = refl;
  exceeds = lit< tt;
  first = before_one (busy_at all_and_one 12) (stands all_and_one 0 (task 3 3 busy_words)) refl one_first;
}
