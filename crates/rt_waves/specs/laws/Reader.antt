-- A reader of waves: of each code it knows the last value that was reported.
use Rattle.std.specs.Prelude.{ℕ, ◌+◌, ◌-◌, ◌==◌, if◌then◌else◌, List, [], ◌∷◌, ◌++◌, codes, Option, Some, None}
use Rattle.std.specs.List.{flat_map, range_with_len}
use Rattle.std.specs.Option.{option_or}
use Rattle.std.specs.Str.{bytes_eq}
use Rattle.rt_image.specs.SystemFile.{TaskSet}
use Rattle.rt_waves.specs.Waves.{waves}
use Rattle.rt_waves.specs.WavesText.{Wave, is_same, values, line, time_line, timed}

-- those values that differ from the ones before
abbrev pub changed : List Wave → List Wave → List Wave
changed [] ys = []
changed (x ∷ xs) [] = []
changed (x ∷ xs) (y ∷ ys) = if is_same x.value y.value then changed xs ys else y ∷ changed xs ys

-- the values that are reported of time u, in a window that begins at `from`
abbrev pub reported : TaskSet → ℕ → ℕ → List Wave
reported set from u = if u == from then values (waves set u) else changed (values (waves set (u - 1))) (values (waves set u))

-- the block that reports them
abbrev pub block_reporting : ℕ → ℕ → List Wave → List ℕ
block_reporting from u ws =
    if u == from then time_line u ++ codes "$dumpvars\n" ++ flat_map line ws ++ codes "$end\n" else timed u (flat_map line ws)

-- the last value of this code among these
abbrev pub last_of : List ℕ → List Wave → Option Wave
last_of code [] = None
last_of code (w ∷ ws) = option_or (last_of code ws) (if bytes_eq code w.code then Some w else None)

-- what a reader of that window knows of a code by time u
abbrev pub known : TaskSet → ℕ → ℕ → List ℕ → Option Wave
known set from u code = last_of code (flat_map (reported set from) (range_with_len from (u + 1 - from)))
