-- Binary digits of a byte.
use Rattle.std.specs.Prelude.{ℕ, ◌+◌, ◌/◌, ◌%◌, List, [], ◌∷◌}

-- all eight of them
unfoldable pub eight_digits : ℕ → List ℕ
eight_digits b =
    (48 + b / 128 % 2) ∷ (48 + b / 64 % 2) ∷ (48 + b / 32 % 2) ∷ (48 + b / 16 % 2) ∷ (48 + b / 8 % 2) ∷ (48 + b / 4 % 2) ∷ (48 + b / 2 % 2) ∷ (48 + b % 2) ∷ []
