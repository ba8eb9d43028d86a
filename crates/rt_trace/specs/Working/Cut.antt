-- Where the text of a legal history may be cut, and what is told from one cut to the next.
use Rattle.std.specs.Prelude.{◌≡◌, ℕ, ◌<◌, ◌⊎◌, List, ◌++◌, IsSome}
use Rattle.rt_image.specs.SystemFile.{TaskSet}
use Rattle.rt_history.specs.Named.{named}
use Rattle.rt_history.specs.MachineState.{MachineState}
use Rattle.rt_history.specs.Legal.{legal, state_at}
use Rattle.rt_history.specs.Working.EndsBusy.{EndsBusy}
use Rattle.rt_trace.specs.HistoryText.{history_text}

-- the history ends busy, or the next tick is busy
abbrev pub IsCut : TaskSet → ℕ → Type 0
IsCut set t = EndsBusy (legal set t) ⊎ IsSome (named (state_at set t).tasks)

-- from tick t on the machine has come to this state, which are the lines of its entries, and may be cut there before tick n
pub record IsTold (set : TaskSet) (n t : ℕ) (lines : List ℕ) (after : MachineState) : Type 0 where
  pub stands : after ≡ state_at set after.tick
  pub text : history_text (legal set after.tick) ≡ history_text (legal set t) ++ lines
  pub cut : after.tick < n → IsCut set after.tick
