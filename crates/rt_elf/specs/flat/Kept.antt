-- Which symbols are kept, in the words of the lines.
use Rattle.std.specs.Prelude.{◌≡◌, ℕ, List, Contains, true, Some}
use Rattle.rt_image.specs.ObjectFile.{Label}
use Rattle.rt_elf.specs.flat.Shown.{is_shown}
use Rattle.rt_elf.specs.flat.FlatNames.{symbol_of, may_stand, has_name}

-- the line says this symbol, nm shows it, and an object of n bytes may have it
pub record Says (n : ℕ) (line : List ℕ) (l : Label) : Type 0 where
  pub said : symbol_of line ≡ Some l
  pub shown : is_shown l.name ≡ true
  pub stands : may_stand n l ≡ true

-- each symbol is said by a line, and each name that a line says is there
pub record AreThoseOf (n : ℕ) (lines : List (List ℕ)) (symbols : List Label) : Type 0 where
  pub only : (l : Label) → Contains symbols l → (line : List ℕ) × Contains lines line × Says n line l
  pub all : (line : List ℕ) (l : Label) → Contains lines line → Says n line l → has_name l.name symbols ≡ true
