-- How long a tick is shown (IEEE 1364-2005, 18.2.3.5): it changes one line of the text.
use Rattle.std.specs.Prelude.{ℕ, List, ◌++◌, codes}
use Rattle.rt_waves.specs.declared.scale.ScaleCount.{ScaleCount}
use Rattle.rt_waves.specs.declared.scale.ScaleCount.TheVariants.{One, Ten, Hundred}
use Rattle.rt_waves.specs.declared.scale.TimeUnit.{TimeUnit}
use Rattle.rt_waves.specs.declared.scale.TimeUnit.TheVariants.{Seconds, Milliseconds, Microseconds, Nanoseconds, Picoseconds, Femtoseconds}
use Rattle.rt_waves.specs.declared.scale.Scale.{Scale}

abbrev pub count_text : ScaleCount → List ℕ
count_text One = codes "1"
count_text Ten = codes "10"
count_text Hundred = codes "100"

abbrev pub unit_text : TimeUnit → List ℕ
unit_text Seconds = codes "s"
unit_text Milliseconds = codes "ms"
unit_text Microseconds = codes "us"
unit_text Nanoseconds = codes "ns"
unit_text Picoseconds = codes "ps"
unit_text Femtoseconds = codes "fs"

abbrev pub scale_line : Scale → List ℕ
scale_line s = codes "$timescale " ++ count_text s.count ++ codes " " ++ unit_text s.unit ++ codes " $end\n"
