-- Texts that stand in a file of XML as they are.
use Rattle.std.specs.Prelude.{◌≡◌, ℕ, ◌==◌, ◌||◌, not, Bool, true, List}
use Rattle.std.specs.List.{list_all}
use Rattle.std.specs.Str.{byte}

-- a byte that is the begin or the end of something else there
abbrev pub is_special : ℕ → Bool
is_special b = b == byte "&" || b == byte "<" || b == byte ">" || b == byte "\""

abbrev pub IsPlainText : List ℕ → Type 0
IsPlainText text = list_all (λ b. not (is_special b)) text ≡ true
