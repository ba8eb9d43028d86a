-- The parts of a window's text at which another window's joins it.
use Rattle.std.specs.Prelude.{ℕ, ◌+◌, ◌-◌, List, ◌++◌, length}
use Rattle.std.specs.List.{flat_map, range_with_len}
use Rattle.rt_image.specs.SystemFile.{TaskSet}
use Rattle.rt_names.specs.TaskNames.{task_names}
use Rattle.rt_waves.specs.declared.scale.Scale.{Scale}
use Rattle.rt_waves.specs.WavesText.{time_line, block, head_text}

-- what stands before the last line
abbrev pub up_to_end : Scale → TaskSet → ℕ → ℕ → List ℕ
up_to_end scale set from n = head_text scale (task_names set) (length set.tasks) ++ flat_map (block set from) (range_with_len from n)

-- what stands behind the first block
abbrev pub behind_first : TaskSet → ℕ → ℕ → List ℕ
behind_first set from n = flat_map (block set from) (range_with_len (from + 1) (n - 1)) ++ time_line (from + n)
