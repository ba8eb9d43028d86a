-- The words and numbers of a line whose words single spaces separate.
use Rattle.std.specs.Prelude.{ℕ, ◌==◌, nat_lt, length, List, [], ◌∷◌, Bool, false, Option, Some, None, if◌then◌else◌}
use Rattle.std.specs.List.{position_or_len, before_first, after_first}
use Rattle.std.specs.Str.{byte, bytes_eq}
use Rattle.rt_words.specs.Found.{◌>>=◌, when}
use Rattle.rt_token.specs.Number.{value_up_to}

abbrev pub is_space : ℕ → Bool
is_space b = b == byte " "

-- what stands before the first space, and what stands after it
abbrev pub word_at : List ℕ → Option (List ℕ × List ℕ)
word_at line = when (nat_lt (position_or_len is_space line) (length line)) (before_first is_space line, after_first is_space line)

-- what stands after a first word and the space that ends it
abbrev pub after_keyword : List ℕ → List ℕ → Option (List ℕ)
after_keyword keyword line = do
  word ← word_at line
  when (bytes_eq word.0 keyword) word.1

-- a '0' and more digits
abbrev pub has_leading_zero : List ℕ → Bool
has_leading_zero [] = false
has_leading_zero (d ∷ []) = false
has_leading_zero (d ∷ e ∷ ds) = d == byte "0"

-- a decimal number of at most the limit, without leading zeros
abbrev pub decimal_up_to : ℕ → List ℕ → Option ℕ
decimal_up_to limit digits = if has_leading_zero digits then None else value_up_to limit 10 digits

-- such a number that a space ends, and what stands after that space
abbrev pub number_at : ℕ → List ℕ → Option (ℕ × List ℕ)
number_at limit line = do
  word ← word_at line
  number ← decimal_up_to limit word.0
  Some (number, word.1)
