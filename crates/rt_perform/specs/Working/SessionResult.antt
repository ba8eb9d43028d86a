-- How a session ended, as `perform` reports it.
use Rattle.std.specs.Prelude.{ℕ, Result, Ok, Err}
use Rattle.rt_dialogue.specs.declared.fault.DebugFault.{DebugFault}
use Rattle.rt_dialogue.specs.declared.fault.DebugFault.TheVariants as debug
use Rattle.rt_perform.specs.declared.program.ProgramFault.{ProgramFault}
use Rattle.rt_perform.specs.declared.program.ProgramFault.TheVariants.{Sim, Input}

-- so many names are left out of its system
abbrev pub session_result : ℕ → Result (Unit {0}) DebugFault → Result ℕ ProgramFault
session_result less (Ok x) = Ok less
session_result less (Err (debug.Sim fault)) = Err (Sim fault)
session_result less (Err debug.Input) = Err Input
