-- What is told of a run.
use Rattle.std.specs.Prelude.{◌≡◌, ℕ, List, Option, Some, None, Result, Ok}
use Rattle.rt_image.specs.SystemFile.{TaskSet}
use Rattle.rt_history.specs.Legal.{state_at}
use Rattle.rt_trace.specs.RunText.{run_text}
use Rattle.rt_trace.specs.declared.telling.Telling.{Telling}
use Rattle.rt_programs.specs.Parts.{part_text}
use Rattle.rt_programs.specs.declared.run_part.RunPart.{RunPart}
use Rattle.rt_opening.specs.declared.fault.SimFault.{SimFault}

-- of a run of n ticks of a set: the text of the whole, or of this part, which may be of this task
abbrev pub told_text : Telling → Option RunPart → Option ℕ → TaskSet → ℕ → List ℕ
told_text telling None task set n = run_text telling set n
told_text telling (Some part) task set n = part_text telling part task (state_at set n)

abbrev pub ToldIs : Telling → Option RunPart → Option ℕ → TaskSet → ℕ → Result (List ℕ) SimFault → Type 0
ToldIs telling part task set n r = r ≡ Ok (told_text telling part task set n)
