-- Rows of the names of a flat image, and of symbols that name parts and tasks.
use Rattle.std.specs.Prelude.{ℕ, List, [], ◌∷◌, ◌++◌, codes}
use Rattle.rt_image.specs.ObjectFile.{Label, ObjectValue}
use Rattle.rt_elf.specs.flat.FlatNames.{Named}

abbrev pub named : ℕ → List ℕ → Label
named address name = record { name = name; address = address }

-- Of an image of 8 bytes: `_end` lies just behind it, `beyond` further, and `below` before it; `end` comes twice, `x-1` is no
-- word, and nm shows neither `$x` nor `.L0`.
abbrev pub names : List ℕ
names =
    codes "80000000 t $x\n"
    ++ codes "80000004 t end\r\n"
    ++ codes "80000008 D _end\n"
    ++ codes "\n"
    ++ codes "80000009 B beyond\n"
    ++ codes "7FFFFFFC A below\n"
    ++ codes "80000004 t x-1\n"
    ++ codes "80000004 t .L0\n"
    ++ codes "80000000 T end\n"
    ++ codes "80000000 T Start"

-- the first `end` is kept; names rise by their bytes, in which S comes before _, and _ before e
abbrev pub kept : Named
kept = record {
  symbols =
      record { name = codes "Start"; address = 0x80000000 }
      ∷ record { name = codes "_end"; address = 0x80000008 }
      ∷ record { name = codes "end"; address = 0x80000004 }
      ∷ [];
  left_out = 4;
}

-- in the order of their names: four stand at one address, of which two are as short
abbrev pub places : List Label
places =
    named 0x80000010 (codes ".x") ∷ named 0x80000004 (codes "_b") ∷ named 0x80000004 (codes "_c") ∷ named 0x80000004 (codes "abc") ∷ named 0x80000004 (codes "abd")
    ∷ named 0x80000008 (codes "pid") ∷ []

abbrev pub entered_at : ℕ → ObjectValue
entered_at address = record { entry = address; bytes = []; labels = places }
