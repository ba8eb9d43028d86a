-- What a session's end says of its text.
use Rattle.rt_perform.proofs.Common.{ℕ, List, Result, Ok, Err, refl, Seen, Admission, Replies, Answers}
use Rattle.rt_dialogue.specs.Dialogue.{Debugs}
use Rattle.rt_dialogue.specs.declared.fault.DebugFault.{DebugFault}
use Rattle.rt_dialogue.specs.declared.fault.DebugFault.TheVariants.{Sim, Input}
use Rattle.rt_dialogue.specs.remote.Dialogue.{DebugsRemotely}
use Rattle.rt_perform.specs.Working.SessionResult.{session_result}

module _ {S : Type 0} (seen : S → Seen) (system : List ℕ) (admission : Admission) (input : List ℕ) (less : ℕ) (sink : S) where
  -- of lines
  pub replies : (ended : Result (Unit {0}) DebugFault) → Debugs seen system admission input ended sink → Replies seen system admission input less (session_result less ended) sink
  replies (Ok x) debugs = (debugs, refl)
  replies (Err (Sim fault)) debugs = debugs
  replies (Err Input) debugs = debugs

  -- of gdb's requests
  pub answers : (ended : Result (Unit {0}) DebugFault) → DebugsRemotely seen system admission input ended sink → Answers seen system admission input less (session_result less ended) sink
  answers (Ok x) debugs = (debugs, refl)
  answers (Err (Sim fault)) debugs = debugs
  answers (Err Input) debugs = debugs
