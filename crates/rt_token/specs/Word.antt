-- The words of assembly text.
use Rattle.std.specs.Prelude.{ℕ, Bool, false, ◌==◌, ◌&&◌, ◌||◌, List, [], ◌∷◌}
use Rattle.std.specs.Char.{is_ascii_alphabetic, is_ascii_digit}
use Rattle.std.specs.List.{list_all}
use Rattle.std.specs.Str.{byte}

-- a word begins with a letter, '_', '.' or '$'
abbrev pub is_word_start : ℕ → Bool
is_word_start b = is_ascii_alphabetic b || b == byte "_" || b == byte "." || b == byte "$"

-- and goes on with these and digits
abbrev pub is_word_part : ℕ → Bool
is_word_part b = is_word_start b || is_ascii_digit b

-- the bytes are one word
abbrev pub is_word : List ℕ → Bool
is_word [] = false
is_word (b ∷ bs) = is_word_start b && list_all is_word_part bs
