-- The budgets that the tasks of a machine have reserved, and those that one of them may reserve beside the others.
use Rattle.std.specs.Prelude.{ℕ, ◌≤◌, Bool, map}
use Rattle.rt_admit.specs.declared.reservation.Reserved.{Reserved}
use Rattle.rt_admit.specs.Reservation.{total_held, is_granted}
use Rattle.rt_history.specs.OwnPart.{TaskState}
use Rattle.rt_history.specs.MachineState.{MachineState}

-- what a task has reserved, whether it goes on or not
abbrev pub reserved_of : TaskState → Reserved
reserved_of s = record { budget = s.serving.account.q; pending = s.serving.account.pending; period = s.serving.account.p }

-- which budgets task i may reserve
abbrev pub grants : MachineState → ℕ → ℕ → Bool
grants m i q = is_granted m.hyper (map reserved_of m.tasks) i q

-- the weights of the greater of present and pending budget of all tasks
abbrev pub held : MachineState → ℕ
held m = total_held m.hyper (map reserved_of m.tasks)

-- they sum to at most the hyperperiod: what all have reserved can be given to all
abbrev pub ReservesFit : MachineState → Type 0
ReservesFit m = held m ≤ m.hyper
