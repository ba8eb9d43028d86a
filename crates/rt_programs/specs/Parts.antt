-- What a part of a run means.
use Rattle.std.specs.Prelude.{◌≡◌, ℕ, min, List, [], slice_get, Option, Some, None, Result, Ok, Err}
use Rattle.std.specs.Option.{option_map_or}
use Rattle.rt_words.specs.Limits.{tick_limit}
use Rattle.rt_admit.specs.declared.admission.Admission.{Admission}
use Rattle.rt_image.specs.ObjectFile.{ObjectValue}
use Rattle.rt_image.specs.ObjectReading.{spelled_object}
use Rattle.rt_history.specs.MachineState.{MachineState}
use Rattle.rt_history.specs.Legal.{state_at}
use Rattle.rt_trace.specs.RunText.{end_text}
use Rattle.rt_trace.specs.declared.telling.Telling.{Telling}
use Rattle.rt_trace.specs.declared.telling.Telling.TheVariants.{WithServers, Alone}
use Rattle.rt_names.specs.TaskNames.{task_names}
use Rattle.rt_names.specs.declared.task_word.TaskWord.{TaskWord}
use Rattle.rt_programs.specs.Asked.{IsMeant, WordMeans}
use Rattle.rt_opening.specs.Alone.{Spells, alone, solo_fault}
use Rattle.rt_opening.specs.declared.solo_task.SoloTask.{SoloTask}
use Rattle.rt_programs.specs.declared.run_part.RunPart.{RunPart}
use Rattle.rt_programs.specs.declared.run_part.RunPart.TheVariants.{End, Output}
use Rattle.rt_opening.specs.declared.fault.SimFault.{SimFault}
use Rattle.rt_opening.specs.declared.fault.SimFault.TheVariants as faults

-- the word for the task whose output it is
abbrev pub word_of : RunPart → Option TaskWord
word_of End = None
word_of (Output word) = Some word

-- the bytes that a task of a machine has written
abbrev pub output_of : MachineState → Option ℕ → List ℕ
output_of m None = []
output_of m (Some i) = option_map_or (λ s. s.program.output) (slice_get m.tasks i) []

-- that of a machine: what is told of it after its ticks, or the bytes that this task has written
abbrev pub part_text : Telling → RunPart → Option ℕ → MachineState → List ℕ
part_text telling End task m = end_text telling m
part_text telling (Output word) task m = output_of m task

-- what that of a run of n ticks means
abbrev pub RunPartMeans : List ℕ → Admission → ℕ → RunPart → Result (List ℕ) SimFault → Type 0
RunPartMeans file admission n part = WordMeans admission (word_of part) (λ s task. part_text WithServers part task (state_at s (min n tick_limit))) file

-- and of an object alone
abbrev pub SoloPartMeans : List ℕ → SoloTask → ℕ → RunPart → Result (List ℕ) SimFault → Type 0
SoloPartMeans file task n part (Ok text) =
    (o : ObjectValue) × Spells file o × (solo_fault o task ≡ None)
    × (i : Option ℕ) × IsMeant (task_names (alone o task)) (word_of part) i × (text ≡ part_text Alone part i (state_at (alone o task) (min n tick_limit)))
SoloPartMeans file task n part (Err (faults.Image fault)) = spelled_object file ≡ Err fault
SoloPartMeans file task n part (Err fault) = (o : ObjectValue) × Spells file o × (solo_fault o task ≡ Some fault)
