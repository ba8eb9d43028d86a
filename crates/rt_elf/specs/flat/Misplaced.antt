-- Lists of names that are those of another image, or of one that is linked elsewhere: some lie outside, and none inside.
use Rattle.std.specs.Prelude.{ℕ, Bool, ◌&&◌, ◌||◌, not, List, [], ◌∷◌, true, false, Option, Some}
use Rattle.rt_words.specs.Found.{◌>>=◌, when}
use Rattle.rt_image.specs.ObjectFile.{is_placed}
use Rattle.rt_elf.specs.flat.Shown.{is_shown}
use Rattle.rt_elf.specs.flat.FlatNames.{symbol_of, name_lines}

-- whether the symbol of a line lies in an image of n bytes, or at its end; none where nm shows no symbol of the line
abbrev pub is_inside : ℕ → List ℕ → Option Bool
is_inside n line = do
  l ← symbol_of line
  when (is_shown l.name) (is_placed n l.address)

abbrev pub is_so : Bool → Option Bool → Bool
is_so true (Some true) = true
is_so false (Some false) = true
is_so inside place = false

-- whether a symbol of the lines lies inside, or outside
abbrev pub some_lie : ℕ → Bool → List (List ℕ) → Bool
some_lie n inside [] = false
some_lie n inside (line ∷ lines) = is_so inside (is_inside n line) || some_lie n inside lines

-- for an image of n bytes
abbrev pub is_misplaced : ℕ → List ℕ → Bool
is_misplaced n text = some_lie n false (name_lines text) && not (some_lie n true (name_lines text))
