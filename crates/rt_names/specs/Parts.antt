-- The parts of a task's addresses: the symbols of its object cut them.
use Rattle.std.specs.Prelude.{ℕ, ◌==◌, nat_le, nat_lt, if◌then◌else◌, Bool, List, length, count_by, Option}
use Rattle.std.specs.List.{filter, reduce}
use Rattle.rt_image.specs.ObjectFile.{Label, is_before}

-- the number of an address's part: how many symbols stand at the address or below it. Two addresses are in one part where no
-- symbol stands between them.
abbrev pub part : List Label → ℕ → ℕ
part ls a = count_by (λ l. nat_le l.address a) ls

-- a part begins at the last symbol, and is named by the shortest name there, or of several as short the first by their bytes
abbrev pub is_nearer : Label → Label → Bool
is_nearer l m =
    if l.address == m.address
    then (if length l.name == length m.name then is_before l.name m.name else nat_lt (length l.name) (length m.name))
    else nat_lt m.address l.address

abbrev pub nearer : Label → Label → Label
nearer l m = if is_nearer m l then m else l

-- the symbol at which the part of an address begins and by which it is named; none of the part below all symbols
abbrev pub namer : List Label → ℕ → Option Label
namer ls a = reduce nearer (filter (λ l. nat_le l.address a) ls)
