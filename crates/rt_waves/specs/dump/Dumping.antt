-- What the run of a machine as waves writes.
use Rattle.std.specs.Prelude.{◌≡◌, ℕ, ◌+◌, List, length, Result}
use Rattle.rt_sink.specs.Seen.{Seen}
use Rattle.rt_image.specs.SystemFile.{TaskSet}
use Rattle.rt_names.specs.TaskNames.{task_names}
use Rattle.rt_history.specs.MachineState.{MachineState}
use Rattle.rt_history.specs.Legal.{state_at}
use Rattle.rt_sink.specs.Sink.{Counts}
use Rattle.rt_sink.specs.declared.sink.DeviceFault.{DeviceFault}
use Rattle.rt_waves.specs.declared.scale.Scale.{Scale}
use Rattle.rt_waves.specs.Standing.{WavesState, waves_at}
use Rattle.rt_waves.specs.WavesText.{waves_text}

-- of a machine, waves and names that stand at the first tick of a set, up to tick `end`: the text of the window that ends there
pub record Dumps {S : Type 0} (seen : S → Seen) (old : S) (scale : Scale) (names : List (List ℕ)) (machine : MachineState) (waves : WavesState) (end : ℕ)
    (answer : Result ℕ DeviceFault) (new : S) : Type 0 where
  pub told : (set : TaskSet) (from n : ℕ) → from + n ≡ end → length set.tasks ≡ length waves.tasks → names ≡ task_names set → machine ≡ state_at set 0 → waves ≡ waves_at set from 0
      → Counts seen old (waves_text scale set from n) answer new
