-- A task's weight: its budget in a hyperperiod.
use Rattle.std.specs.Prelude.{ℕ, ◌*◌, ◌/◌, List, sum_by}
use Rattle.rt_admit.specs.declared.params.Params.{Params}

-- the ticks that a budget Q in each period P asks for in a hyperperiod H, Q * (H / P)
abbrev pub weight : ℕ → ℕ → ℕ → ℕ
weight hyper budget period = budget * (hyper / period)

-- a task's weight
abbrev pub weight_of : ℕ → Params → ℕ
weight_of hyper task = weight hyper task.budget task.period

-- the weights of all tasks together
abbrev pub total_weight : ℕ → List Params → ℕ
total_weight hyper tasks = sum_by (weight_of hyper) tasks
