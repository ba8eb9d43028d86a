-- The listing of an object: each word's text with its address and number, below the symbols that stand there.
use Rattle.std.specs.Prelude.{ℕ, ◌+◌, ◌==◌, if◌then◌else◌, codes, List, [], ◌∷◌, ◌++◌}
use Rattle.std.specs.List.{flat_map}
use Rattle.byteorder.specs.Endian.{little_number}
use Rattle.rt_words.specs.Base.{base}
use Rattle.rt_words.specs.Hex.{hex}
use Rattle.rt_isa.specs.Print.{text}
use Rattle.rt_image.specs.ObjectFile.{Label, ObjectValue}

-- the line of a symbol, at its address alone
abbrev pub name_line : ℕ → Label → List ℕ
name_line address l = if l.address == address then l.name ++ codes ":\n" else []

-- the lines of the symbols at an address, in their order
abbrev pub names_at : ℕ → List Label → List ℕ
names_at address labels = flat_map (name_line address) labels

-- what ends a line: ` # ` and the address
abbrev pub remark : ℕ → List ℕ
remark address = codes " # " ++ hex 8 address

-- the line of a word w
abbrev pub word_line : ℕ → ℕ → List ℕ
word_line address w = codes "    " ++ text address w ++ remark address ++ codes " " ++ hex 8 w ++ codes "\n"

-- the line of one of the last bytes, where no whole word is left
abbrev pub byte_line : ℕ → ℕ → List ℕ
byte_line address b = codes "    .byte 0x" ++ hex 2 b ++ remark address ++ codes "\n"

-- the lines of bytes of which the first lies at address; a symbol within a word has none
abbrev pub lines_from : List Label → ℕ → List ℕ → List ℕ
lines_from labels address [] = names_at address labels
lines_from labels address (a ∷ b ∷ c ∷ d ∷ rest) =
    names_at address labels ++ word_line address (little_number 4 (a ∷ b ∷ c ∷ d ∷ [])) ++ lines_from labels (address + 4) rest
lines_from labels address (a ∷ rest) =
    names_at address labels ++ byte_line address a ++ lines_from labels (address + 1) rest

-- the listing of an object, whose image begins where RAM does
abbrev pub listing : ObjectValue → List ℕ
listing o = lines_from o.labels base o.bytes
