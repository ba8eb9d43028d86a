-- A run in which failures are looked for.
use Rattle.std.specs.Prelude.{ℕ, ◌+◌, min, List, [], ◌∷◌, Option, Some, None, Result, Ok, Err, ⊤}
use Rattle.rt_words.specs.Limits.{tick_limit}
use Rattle.rt_sink.specs.Seen.{Seen}
use Rattle.rt_admit.specs.declared.admission.Admission.{Admission}
use Rattle.rt_names.specs.declared.task_word.TaskWord.{TaskWord}
use Rattle.rt_trace.specs.declared.telling.Telling.{Telling}
use Rattle.rt_trace.specs.declared.telling.Telling.TheVariants.{WithServers, Alone}
use Rattle.rt_report.specs.declared.failing.Failing.{Failing}
use Rattle.rt_accounts.specs.Accounting.{Accounts, OpensAccounts, OpensAlone}
use Rattle.rt_opening.specs.declared.fault.SimFault.{SimFault}
use Rattle.rt_image.specs.SystemFile.{TaskSet}
use Rattle.rt_names.specs.TaskNames.{task_names}
use Rattle.rt_programs.specs.Asked.{IsMeant}
use Rattle.rt_programs.specs.printing.Fails.{ticks_of, RunsSet, text_word}
use Rattle.rt_programs.specs.printing.Prints.{Prints}
use Rattle.rt_programs.specs.declared.run_part.RunPart.{RunPart}
use Rattle.rt_programs.specs.declared.printing.file_text.FileText.{FileText}
use Rattle.rt_programs.specs.declared.printing.file_text.FileText.TheVariants as texts
use Rattle.rt_programs.specs.declared.printing.file_text.FileText.TheVariants.{Solo, SoloPart, Run, Jobs, Chart, Trace, Certificates}

-- its text is written as a whole of the file's bytes; that of jobs is printed part by part, that of certificates behind what they come to,
-- and a part of a run behind the run
abbrev pub IsWhole : FileText → Type 0
IsWhole (SoloPart ticks task part) = ⊥
IsWhole (texts.RunPart ticks part) = ⊥
IsWhole (Jobs ticks form) = ⊥
IsWhole (Certificates question) = ⊥
IsWhole text = ⊤

-- it is of a loaded run even where no failure is looked for: a part, jobs, a picture in which tasks are excepted, and the trace of a task
abbrev pub own_ticks : FileText → List TaskWord → Option ℕ
own_ticks (SoloPart ticks task part) except = Some ticks
own_ticks (texts.RunPart ticks part) except = Some ticks
own_ticks (Jobs ticks form) except = Some ticks
own_ticks (Chart window style) (word ∷ words) = Some window.to
own_ticks (Trace from ticks (Some word)) except = Some (min (from + ticks) tick_limit)
own_ticks text except = None

-- how many ticks a run has that is loaded for a text: for these, and for any in which failures are looked for
abbrev pub looked_at : FileText → List Failing → List TaskWord → Option ℕ
looked_at text [] except = own_ticks text except
looked_at text fail_on except = ticks_of text

-- it is loaded and has run no tick; or this is why it isn't loaded
abbrev pub Opens : Admission → FileText → List ℕ → Result Accounts SimFault → Type 0
Opens admission (Solo ticks task) file result = OpensAlone file task result
Opens admission (SoloPart ticks task part) file result = OpensAlone file task result
Opens admission text file result = OpensAccounts file admission result

-- in the set that is run, its word means this task
abbrev pub IsOf : FileText → List ℕ → Option ℕ → Type 0
IsOf text file task = (s : TaskSet) → RunsSet text file s → IsMeant (task_names s) (text_word text) task

-- how a run is told, and the part of it, if the text is one; none of a text that is of no run itself
abbrev pub told_of : FileText → Option (Telling × Option RunPart)
told_of (Run ticks) = Some (WithServers, None)
told_of (texts.RunPart ticks part) = Some (WithServers, Some part)
told_of (Solo ticks task) = Some (Alone, None)
told_of (SoloPart ticks task part) = Some (Alone, Some part)
told_of text = None

-- its text is printed, whatever else is answered
abbrev pub PrintsRun : {S X : Type 0} → (S → Seen) → (List ℕ → Option SimFault → Type 0) → Result X SimFault → S → Type 0
PrintsRun seen Means (Ok run) sink = Prints {X = Unit {0}} seen Means (Ok tt) sink
PrintsRun seen Means (Err fault) sink = Prints {X = Unit {0}} seen Means (Err fault) sink
