-- The lines of a text.
use Rattle.std.specs.Prelude.{ℕ, Bool, ◌==◌, ◌+◌, length, if◌then◌else◌, List, [], ◌∷◌}
use Rattle.std.specs.List.{slice_split}
use Rattle.std.specs.Str.{byte}
use Rattle.std.specs.Str.Lines.{strip_carriage_return}

-- a line feed ends a line
abbrev pub is_line_feed : ℕ → Bool
is_line_feed b = b == byte "\n"

-- the lines in the parts between line feeds, each with the place of its first byte: an empty last part is no line, and a
-- part before a line feed loses one carriage return at its end
abbrev pub lines_of_parts : ℕ → List (List ℕ) → List (ℕ × List ℕ)
lines_of_parts place [] = []
lines_of_parts place (part ∷ []) = if length part == 0 then [] else (place, part) ∷ []
lines_of_parts place (part ∷ another ∷ more) =
    (place, strip_carriage_return part) ∷ lines_of_parts (place + length part + 1) (another ∷ more)

-- the lines of a text whose first byte lies at place
abbrev pub source_lines : ℕ → List ℕ → List (ℕ × List ℕ)
source_lines place text = lines_of_parts place (slice_split is_line_feed text)
