-- What a run of one object means.
use Rattle.std.specs.Prelude.{ℕ, min, List, Result}
use Rattle.rt_words.specs.Limits.{tick_limit}
use Rattle.rt_image.specs.ObjectFile.{ObjectValue}
use Rattle.rt_history.specs.Legal.{state_at}
use Rattle.rt_fault_lines.specs.Calm.{IsCalm}
use Rattle.rt_trace.specs.RunText.{run_text}
use Rattle.rt_trace.specs.declared.telling.Telling.TheVariants.{Alone}
use Rattle.rt_opening.specs.Alone.{Spells, alone, AloneMeans}
use Rattle.rt_opening.specs.declared.solo_task.SoloTask.{SoloTask}
use Rattle.rt_opening.specs.declared.fault.SimFault.{SimFault}

-- what a run of n ticks means
abbrev pub SoloMeans : List ℕ → SoloTask → ℕ → Result (List ℕ) SimFault → Type 0
SoloMeans file task n = AloneMeans (λ s. run_text Alone s (min n tick_limit)) file task

-- after n ticks alone the object of a file hasn't faulted, and its output had room for its writes
abbrev pub RunsAloneCalmly : List ℕ → SoloTask → ℕ → Type 0
RunsAloneCalmly file task n = (o : ObjectValue) → Spells file o → IsCalm (state_at (alone o task) (min n tick_limit))
