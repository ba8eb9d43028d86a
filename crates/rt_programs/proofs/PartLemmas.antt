-- What a part of a run means, of a run that is told.
use Rattle.rt_programs.proofs.Common.{◌≡◌, ℕ, ◌^◌, min, List, None, Option, Some, Result, sym, ap, subst, TaskSet, state_at, SpellsSet, Spells, alone, solo_fault, RunPartMeans, SoloPartMeans, SimFault}
use Rattle.rt_admit.specs.declared.admission.Admission.{Admission}
use Rattle.rt_image.specs.ObjectFile.{ObjectValue}
use Rattle.rt_core.specs.Loading.{load_fault_under}
use Rattle.rt_names.specs.TaskNames.{task_names}
use Rattle.rt_trace.specs.declared.telling.Telling.TheVariants.{WithServers, Alone}
use Rattle.rt_programs.specs.Asked.{IsMeant}
use Rattle.rt_programs.specs.Parts.{word_of, part_text}
use Rattle.rt_programs.specs.Working.Told.{ToldIs}
use Rattle.rt_opening.specs.declared.solo_task.SoloTask.{SoloTask}
use Rattle.rt_programs.specs.declared.run_part.RunPart.{RunPart}

-- of a set that is loaded, after u ticks
pub set-part : (file : List ℕ) (admission : Admission) (s : TaskSet) (n u : ℕ) (part : RunPart) (task : Option ℕ) → SpellsSet file s → load_fault_under admission s ≡ None → IsMeant (task_names s) (word_of part) task
    → u ≡ min n (2 ^ 40) → (r : Result (List ℕ) SimFault) → ToldIs WithServers (Some part) task s u r → RunPartMeans file admission n part r
set-part file admission s n u part task spells loads meant end r is =
    subst (RunPartMeans file admission n part) (sym is) (s, spells, loads, task, meant, ap (λ (t : ℕ). part_text WithServers part task (state_at s t)) end)

-- and of an object alone
pub solo-part : (file : List ℕ) (o : ObjectValue) (task : SoloTask) (n u : ℕ) (part : RunPart) (i : Option ℕ) → Spells file o → solo_fault o task ≡ None → IsMeant (task_names (alone o task)) (word_of part) i
    → u ≡ min n (2 ^ 40) → (r : Result (List ℕ) SimFault) → ToldIs Alone (Some part) i (alone o task) u r → SoloPartMeans file task n part r
solo-part file o task n u part i spells loads meant end r is =
    subst (SoloPartMeans file task n part) (sym is) (o, spells, loads, i, meant, ap (λ (t : ℕ). part_text Alone part i (state_at (alone o task) t)) end)
