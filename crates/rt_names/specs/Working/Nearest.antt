-- The symbol that names a part, as symbols come one after the other.
use Rattle.std.specs.Prelude.{Option, Some, None}
use Rattle.rt_image.specs.ObjectFile.{Label}
use Rattle.rt_names.specs.Parts.{nearer}

-- the symbol that names a part, of the one so far and another
abbrev pub nearest : Option Label → Label → Label
nearest None l = l
nearest (Some m) l = nearer m l
