-- A page of blocks, as a machine goes on.
use Rattle.std.specs.Prelude.{◌≡◌, ℕ, ◌-◌, List}
use Rattle.std.specs.List.{flat_map, range_with_len}
use Rattle.rt_image.specs.SystemFile.{TaskSet}
use Rattle.rt_history.specs.MachineState.{MachineState}
use Rattle.rt_history.specs.Legal.{state_at}
use Rattle.rt_waves.specs.Standing.{WavesState, waves_at, told_block}

-- from tick t on a machine and its waves have come to this, and these are the blocks of the times between
pub record IsDumped (set : TaskSet) (from t : ℕ) (lines : List ℕ) (machine : MachineState) (waves : WavesState) : Type 0 where
  pub stands : machine ≡ state_at set machine.tick
  pub told : waves ≡ waves_at set from machine.tick
  pub text : lines ≡ flat_map (told_block set from) (range_with_len t (machine.tick - t))
