-- What is told of a time, line by line.
use Rattle.std.specs.Prelude.{ℕ, ◌==◌, nat_lt, if◌then◌else◌, List, [], ◌∷◌, ◌++◌, codes}
use Rattle.rt_waves.specs.declared.block.Telling.{Telling}
use Rattle.rt_waves.specs.declared.block.Telling.TheVariants.{Nothing, All, Changes}
use Rattle.rt_waves.specs.declared.signals.Value.{Value}
use Rattle.rt_waves.specs.WavesText.{Wave, is_same, line, time_line, timed}

-- how much is told of time u, in a window that begins at `from`
abbrev pub telling_at : ℕ → ℕ → Telling
telling_at from u = if nat_lt u from then Nothing else (if u == from then All else Changes)

-- the line of a value, where it is told
abbrev pub told_line : Telling → Value → Wave → List ℕ
told_line Nothing before now = []
told_line All before now = line now
told_line Changes before now = if is_same before now.value then [] else line now

abbrev pub told_lines : Telling → List Wave → List Wave → List ℕ
told_lines telling [] ys = []
told_lines telling (x ∷ xs) [] = []
told_lines telling (x ∷ xs) (y ∷ ys) = told_line telling x.value y ++ told_lines telling xs ys

-- the block of these lines
abbrev pub block_of : Telling → ℕ → List ℕ → List ℕ
block_of Nothing u lines = []
block_of All u lines = time_line u ++ codes "$dumpvars\n" ++ lines ++ codes "$end\n"
block_of Changes u lines = timed u lines
