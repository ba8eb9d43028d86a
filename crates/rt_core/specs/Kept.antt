-- What no tick changes, and what holds of each record, whatever the tasks are.
use Rattle.std.specs.Prelude.{◌≡◌, ℕ, ◌<◌, map}
use Rattle.rt_history.specs.declared.record.Record.{Record}
use Rattle.rt_history.specs.declared.record.Record.TheVariants as records
use Rattle.rt_history.specs.OwnPart.{TaskState}
use Rattle.rt_history.specs.MachineState.{MachineState}

abbrev pub period : TaskState → ℕ
period s = s.serving.account.p

-- the hyperperiod, the number of tasks and their periods stay
pub record Keeps (old new : MachineState) : Type 0 where
  pub hyper : new.hyper ≡ old.hyper
  pub periods : map period new.tasks ≡ map period old.tasks

-- a record is of one of n tasks
abbrev pub IsOf : ℕ → Record → Type 0
IsOf n records.Idle = Unit {0}
IsOf n (records.Busy a) = a.task < n
