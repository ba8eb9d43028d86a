-- The rule of admission.
use Rattle.std.specs.Prelude.{◌≡◌, ℕ, ◌%◌, ◌<◌, ◌≤◌, List, length, All}
use Rattle.rt_admit.specs.declared.params.Params.{Params}
use Rattle.rt_admit.specs.Limits.{task_limit, hyper_limit}
use Rattle.rt_admit.specs.Weight.{total_weight}

-- a task that can stand in an admitted set of this hyperperiod: a budget of at least one tick and at
-- most the period, and a period that divides the hyperperiod
pub record IsEligible (hyper : ℕ) (task : Params) : Type 0 where
  pub budgeted : 1 ≤ task.budget
  pub within : task.budget ≤ task.period
  pub divides : hyper % task.period ≡ 0

-- a set that can be run, whatever its load: 1 to 64 tasks, a hyperperiod of 1 to 4,194,304 ticks, and each task eligible
pub record IsRunnable (hyper : ℕ) (tasks : List Params) : Type 0 where
  pub nonempty : 1 ≤ length tasks
  pub few : length tasks ≤ task_limit
  pub hyper_positive : 1 ≤ hyper
  pub hyper_bounded : hyper ≤ hyper_limit
  pub eligible : All (IsEligible hyper) tasks

-- the set is admitted (Liu and Layland 1973, over a stated hyperperiod): 1 to 64 tasks, a hyperperiod
-- of 1 to 4,194,304 ticks, each task eligible, and weights that sum to at most the hyperperiod
pub record IsAdmitted (hyper : ℕ) (tasks : List Params) : Type 0 where
  pub nonempty : 1 ≤ length tasks
  pub few : length tasks ≤ task_limit
  pub hyper_positive : 1 ≤ hyper
  pub hyper_bounded : hyper ≤ hyper_limit
  pub eligible : All (IsEligible hyper) tasks
  pub load : total_weight hyper tasks ≤ hyper

-- the set would be admitted but for its load: all else holds, and the weights sum to more than the
-- hyperperiod
pub record IsOverloaded (hyper : ℕ) (tasks : List Params) : Type 0 where
  pub nonempty : 1 ≤ length tasks
  pub few : length tasks ≤ task_limit
  pub hyper_positive : 1 ≤ hyper
  pub hyper_bounded : hyper ≤ hyper_limit
  pub eligible : All (IsEligible hyper) tasks
  pub overload : hyper < total_weight hyper tasks
