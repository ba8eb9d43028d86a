-- What the trace of a system means.
use Rattle.std.specs.Prelude.{ℕ, ◌-◌, min, List, Option, Result}
use Rattle.rt_words.specs.Limits.{tick_limit}
use Rattle.rt_admit.specs.declared.admission.Admission.{Admission}
use Rattle.rt_effects.specs.TraceText.{trace_text}
use Rattle.rt_image.specs.SystemFile.{TaskSet}
use Rattle.rt_names.specs.declared.task_word.TaskWord.{TaskWord}
use Rattle.rt_programs.specs.Asked.{TaskMeans, WordMeans}
use Rattle.rt_opening.specs.declared.fault.SimFault.{SimFault}

-- the text of ticks from .. from + n - 1, as far as they are below 2^40, of all tasks or of this one
abbrev pub window_text : ℕ → ℕ → TaskSet → Option ℕ → List ℕ
window_text from n s task = trace_text s from (min n (tick_limit - from)) task

abbrev pub TraceMeans : List ℕ → Admission → ℕ → ℕ → Option ℕ → Result (List ℕ) SimFault → Type 0
TraceMeans file admission from n task = TaskMeans admission task (window_text from n) file

-- and of all tasks or of the one that the word means
abbrev pub WordTraceMeans : List ℕ → Admission → ℕ → ℕ → Option TaskWord → Result (List ℕ) SimFault → Type 0
WordTraceMeans file admission from n word = WordMeans admission word (window_text from n) file
