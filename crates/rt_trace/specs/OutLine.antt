-- The line of a task's output.
use Rattle.std.specs.Prelude.{ℕ, zero, suc, List, [], ◌++◌, length, codes, decimal}
use Rattle.std.specs.List.{flat_map}
use Rattle.rt_words.specs.Hex.{hex}

-- a space before what follows, where there is something
abbrev pub gap : ℕ → List ℕ
gap zero = []
gap (suc n) = codes " "

-- two digits for each byte
abbrev pub bytes_text : List ℕ → List ℕ
bytes_text bytes = flat_map (hex 2) bytes

-- the number of bytes, and then the bytes
abbrev pub out_text : List ℕ → List ℕ
out_text bytes = codes "out " ++ decimal (length bytes) ++ gap (length bytes) ++ bytes_text bytes ++ codes "\n"
