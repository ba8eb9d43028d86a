-- Which failure happened in the run that a text is of, of those that it is asked for; or which task of a set isn't certified.
use Rattle.std.specs.Prelude.{◌≡◌, ◌⊎◌, ℕ, ◌+◌, min, List, [], Bool, true, false, Option, Some, None, Ok, Err}
use Rattle.std.specs.Option.{option_map}
use Rattle.rt_words.specs.Limits.{tick_limit}
use Rattle.rt_image.specs.ObjectFile.{ObjectValue}
use Rattle.rt_image.specs.SystemFile.{TaskSet}
use Rattle.rt_names.specs.TaskNames.{task_names}
use Rattle.rt_names.specs.TaskWords.{task_of, tasks_of}
use Rattle.rt_names.specs.declared.task_word.TaskWord.{TaskWord}
use Rattle.rt_names.specs.declared.task_word.TaskFault.{TaskFault}
use Rattle.rt_accounts.specs.Failures.{first_failure}
use Rattle.rt_opening.specs.Sets.{SpellsSet}
use Rattle.rt_opening.specs.Alone.{Spells, alone}
use Rattle.rt_report.specs.declared.failing.Failing.{Failing}
use Rattle.rt_programs.specs.CertifySet.{Lacks}
use Rattle.rt_programs.specs.Parts.{word_of}
use Rattle.rt_programs.specs.Showing.{is_object}
use Rattle.rt_programs.specs.declared.question.Question.{Question}
use Rattle.rt_programs.specs.declared.outcome.Uncertified.{Uncertified as Lacking}
use Rattle.rt_programs.specs.declared.printing.judging.Finding.{Finding}
use Rattle.rt_programs.specs.declared.printing.judging.Finding.TheVariants.{Failed, Uncertified}
use Rattle.rt_programs.specs.declared.printing.file_text.FileText.{FileText}
use Rattle.rt_programs.specs.declared.printing.file_text.FileText.TheVariants.{Solo, SoloPart, Run, RunPart, Report, Jobs, Chart, Trace, Certificates}

-- how many ticks a text that is of a run runs; none of another text
abbrev pub ticks_of : FileText → Option ℕ
ticks_of (Solo ticks task) = Some ticks
ticks_of (SoloPart ticks task part) = Some ticks
ticks_of (Run ticks) = Some ticks
ticks_of (RunPart ticks part) = Some ticks
ticks_of (Report ticks width) = Some ticks
ticks_of (Jobs ticks form) = Some ticks
ticks_of (Chart window style) = Some window.to
ticks_of (Trace from ticks word) = Some (min (from + ticks) tick_limit)
ticks_of text = None

-- the set that it runs: that of an object alone, or that of a system file
abbrev pub RunsSet : FileText → List ℕ → TaskSet → Type 0
RunsSet (Solo ticks task) file set = (o : ObjectValue) × Spells file o × (set ≡ alone o task)
RunsSet (SoloPart ticks task part) file set = (o : ObjectValue) × Spells file o × (set ≡ alone o task)
RunsSet text file set = SpellsSet file set

-- the certificates that a text asks for, if it does
abbrev pub certificates_of : FileText → Option Question
certificates_of (Certificates question) = Some question
certificates_of text = None

-- the first failure of the list in this run, of a task that none of these words means
abbrev pub FailsIn : FileText → List ℕ → List Failing → List TaskWord → Option ℕ → Option Finding → Type 0
FailsIn text file fail_on except None found = found ≡ None
FailsIn text file fail_on except (Some ticks) found =
    (set : TaskSet) × (tasks : List ℕ) × RunsSet text file set × (tasks_of (task_names set) except ≡ Ok tasks)
    × (found ≡ option_map Failed (first_failure fail_on tasks set (min ticks tick_limit)))

-- the first task of a file's set that isn't certified; an object has no tasks
abbrev pub LacksIn : Bool → List ℕ → ℕ → List TaskWord → Option Finding → Type 0
LacksIn true file jobs except found = found ≡ None
LacksIn false file jobs except found = (lacking : Option Lacking) × Lacks file jobs except lacking × (found ≡ option_map Uncertified lacking)

-- none is looked for where the list is empty
abbrev pub FailsOf : Option Question → FileText → List ℕ → List Failing → List TaskWord → Option Finding → Type 0
FailsOf (Some question) text file fail_on except found = LacksIn (is_object file) file question.jobs except found
FailsOf None text file [] except found = found ≡ None
FailsOf None text file fail_on except found = FailsIn text file fail_on except (ticks_of text) found

abbrev pub Fails : FileText → List ℕ → List Failing → List TaskWord → Option Finding → Type 0
Fails text file fail_on except found = FailsOf (certificates_of text) text file fail_on except found

-- why one of these words means no task of an object, which has none, or of a file's set
abbrev pub MisnamesIn : Bool → List ℕ → List TaskWord → TaskFault → Type 0
MisnamesIn true file except fault = tasks_of [] except ≡ Err fault
MisnamesIn false file except fault = (set : TaskSet) × SpellsSet file set × (tasks_of (task_names set) except ≡ Err fault)

-- the word for the task that a text is of
abbrev pub text_word : FileText → Option TaskWord
text_word (SoloPart ticks task part) = word_of part
text_word (RunPart ticks part) = word_of part
text_word (Trace from ticks word) = word
text_word text = None

-- why one of these words means no task with one of these names, or if each does, that of a text
abbrev pub IsMisnamed : List (List ℕ) → List TaskWord → Option TaskWord → TaskFault → Type 0
IsMisnamed names except word fault =
    (tasks_of names except ≡ Err fault)
    ⊎ ((tasks : List ℕ) × (tasks_of names except ≡ Ok tasks) × (w : TaskWord) × (word ≡ Some w) × (task_of names w ≡ Err fault))

-- why a word means no task of the set that is run
abbrev pub MisnamesOf : Option Question → FileText → List ℕ → List TaskWord → TaskFault → Type 0
MisnamesOf (Some question) text file except fault = MisnamesIn (is_object file) file except fault
MisnamesOf None text file except fault =
    (ticks : ℕ) × (ticks_of text ≡ Some ticks) × (set : TaskSet) × RunsSet text file set × IsMisnamed (task_names set) except (text_word text) fault

abbrev pub Misnames : FileText → List ℕ → List TaskWord → TaskFault → Type 0
Misnames text file except fault = MisnamesOf (certificates_of text) text file except fault
