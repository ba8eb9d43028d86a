-- What is shown of a task.
use Rattle.std.specs.Prelude.{◌≡◌, ℕ}
use Rattle.rt_server.specs.Fit.{Fits}
use Rattle.rt_exec.specs.State.{State}
use Rattle.rt_history.specs.declared.mode.Mode.TheVariants.{Active}
use Rattle.rt_history.specs.Serving.{Serving}
use Rattle.rt_history.specs.OwnPart.{TaskState}
use Rattle.rt_core.specs.declared.view.View.{View}

-- pc, the registers and the bytes of RAM, and the mode with the server's account
pub record TaskView : Type 0 where
  pub state : State
  pub serving : Serving

-- what a view lends
abbrev pub lent : View → TaskView
lent v = record {
  state = record { pc = v.pc; x = v.x.now; ram = v.ram.now };
  serving = record { account = record { q = v.q; p = v.p; c = v.c; d = v.d; pending = v.pending }; mode = v.mode };
}

abbrev pub shown : TaskState → TaskView
shown s = record { state = s.program.state; serving = s.serving }

-- the unspent budget of a task that is shown active at tick t fits before its deadline
abbrev pub ViewFits : ℕ → TaskView → Type 0
ViewFits t v = v.serving.mode ≡ Active → Fits t v.serving.account
