-- A machine's state.
use Rattle.std.specs.Prelude.{ℕ, List}
use Rattle.rt_history.specs.OwnPart.{TaskState}

-- a hyperperiod, the tick that comes next, and how each task stands
pub record MachineState : Type 0 where
  pub hyper : ℕ
  pub tick : ℕ
  pub tasks : List TaskState
