-- How a machine's queues follow from its tasks, and what holds of each task.
use Rattle.std.specs.Prelude.{◌≡◌, ℕ, ◌≤◌, List, length, map, All, Option, Some, None, [], ◌∷◌, suc}
use Rattle.rt_words.specs.Limits.{tick_limit}
use Rattle.rt_admit.specs.Limits.{hyper_limit, task_limit}
use Rattle.rt_server.specs.Arrival.{woken}
use Rattle.rt_history.specs.declared.mode.Mode.{Mode}
use Rattle.rt_history.specs.declared.mode.Mode.TheVariants.{Active, Asleep, Ended, Faulted}
use Rattle.rt_history.specs.OwnPart.{TaskState}
use Rattle.rt_history.specs.Named.{deadline}
use Rattle.rt_history.specs.Working.Bounded.{IsBounded}

-- the tick until which a task sleeps
abbrev pub wake_in : Mode → Option ℕ
wake_in Active = None
wake_in (Asleep w) = Some w
wake_in Ended = None
wake_in (Faulted _) = None

abbrev pub wake_at : TaskState → Option ℕ
wake_at s = wake_in s.serving.mode

-- a task that wakes at w
abbrev pub awake : ℕ → TaskState → TaskState
awake w s = record { program = s.program; serving = record { account = woken w s.serving.account; mode = Active } }

-- what holds of each task at tick t: its account is bounded, and it has budget unless it was never woken
pub record IsSound (t : ℕ) (s : TaskState) : Type 0 where
  pub account : IsBounded t s.serving.account
  pub begun : s.serving.account.c ≡ 0 → s.serving.account.d ≡ 0
  pub active : s.serving.mode ≡ Active → 1 ≤ s.serving.account.c

pub record AreTied (readies timers : List (Option ℕ)) (hyper t : ℕ) (tasks : List TaskState) : Type 0 where
  pub ready : readies ≡ map deadline tasks
  pub asleep : timers ≡ map wake_at tasks
  pub sound : All (IsSound t) tasks
  pub few : length tasks ≤ task_limit
  pub whole : hyper ≤ hyper_limit
  pub limit : t ≤ tick_limit

-- how many have a value
abbrev pub count_some : List (Option ℕ) → ℕ
count_some [] = 0
count_some (None ∷ keys) = count_some keys
count_some (Some key ∷ keys) = suc (count_some keys)
