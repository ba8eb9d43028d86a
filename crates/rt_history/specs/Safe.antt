-- What holds of every machine of an admitted set.
use Rattle.rt_history.specs.MachineState.{MachineState}
use Rattle.rt_history.specs.Fit.{AllFit}
use Rattle.rt_history.specs.Reservations.{ReservesFit}

-- each active task's unspent budget fits before its deadline, and what all have reserved can be given to all
pub record IsSafe (m : MachineState) : Type 0 where
  pub fits : AllFit m
  pub reserves : ReservesFit m
