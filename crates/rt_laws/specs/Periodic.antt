-- Jobs as a periodic task has them (Liu and Layland 1973): released a period or more apart, and each within its budget.
use Rattle.std.specs.Prelude.{◌≡◌, ℕ, ◌+◌, ◌≤◌, true, List, take, slice_get, Some, All}
use Rattle.rt_image.specs.SystemFile.{SetTask, TaskSet}
use Rattle.rt_history.specs.OwnPart.{own}
use Rattle.rt_history.specs.Legal.{legal}
use Rattle.rt_history.specs.Job.{Job, jobs}

-- the first n finished jobs of task i, which asks for s, in the legal history of t ticks
abbrev pub first_jobs : ℕ → TaskSet → ℕ → ℕ → SetTask → List Job
first_jobs n set t i s = take n (jobs s (own i (legal set t)))

-- no job has more ticks than its budget or a yield, and each release after the first is at least a period after the one before
pub record ArePeriodic (period : ℕ) (js : List Job) : Type 0 where
  pub within : All (λ j. j.ticks ≤ j.budget) js
  pub calm : All (λ j. j.calm ≡ true) js
  pub apart : (n : ℕ) (j next : Job) → slice_get js n ≡ Some j → slice_get js (n + 1) ≡ Some next → j.release + period ≤ next.release
