-- Hexadecimal digits.
use Rattle.std.specs.Prelude.{ℕ, zero, suc, false, ◌/◌, ◌%◌, List, [], ◌∷◌, ◌++◌}
use Rattle.std.specs.Fmt.{digit_glyph}

-- the last k digits of a number, in lower case
unfoldable pub hex : ℕ → ℕ → List ℕ
hex zero n = []
hex (suc k) n = hex k (n / 16) ++ (digit_glyph false (n % 16) ∷ [])
