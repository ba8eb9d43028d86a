-- What a run of a system means.
use Rattle.std.specs.Prelude.{ℕ, min, List, Result}
use Rattle.rt_words.specs.Limits.{tick_limit}
use Rattle.rt_admit.specs.declared.admission.Admission.{Admission}
use Rattle.rt_image.specs.SystemFile.{TaskSet}
use Rattle.rt_history.specs.Legal.{state_at}
use Rattle.rt_fault_lines.specs.Calm.{IsCalm}
use Rattle.rt_trace.specs.RunText.{run_text}
use Rattle.rt_trace.specs.declared.telling.Telling.TheVariants.{WithServers}
use Rattle.rt_opening.specs.Sets.{SpellsSet, SetMeans}
use Rattle.rt_opening.specs.declared.fault.SimFault.{SimFault}

-- what a run of n ticks means
abbrev pub RunMeans : List ℕ → Admission → ℕ → Result (List ℕ) SimFault → Type 0
RunMeans file admission n = SetMeans admission (λ s. run_text WithServers s (min n tick_limit)) file

-- after n ticks no task of the set of a file has faulted, and each one's output had room for its writes
abbrev pub RunsCalmly : List ℕ → ℕ → Type 0
RunsCalmly file n = (s : TaskSet) → SpellsSet file s → IsCalm (state_at s (min n tick_limit))
