-- The numbers of requests, and what marks separate.
use Rattle.std.specs.Prelude.{ℕ, ◌==◌, ◌-◌, ◌^◌, nat_lt, length, List, Bool, Option, Some, None, if◌then◌else◌}
use Rattle.std.specs.List.{position_or_len, before_first, after_first}
use Rattle.std.specs.Str.{byte}
use Rattle.rt_words.specs.Found.{◌>>=◌, when}
use Rattle.rt_token.specs.Number.{value_up_to}

abbrev pub is_mark : ℕ → ℕ → Bool
is_mark mark b = b == mark

-- what stands before the first of a mark, and what stands behind it
abbrev pub cut_at : ℕ → List ℕ → Option (List ℕ × List ℕ)
cut_at mark text =
    when (nat_lt (position_or_len (is_mark mark) text) (length text)) (before_first (is_mark mark) text, after_first (is_mark mark) text)

-- one to so many hexadecimal digits, of either case; the limit is the greatest number that so many digits write
abbrev pub hexadecimal : ℕ → ℕ → List ℕ → Option ℕ
hexadecimal most limit digits = if nat_lt most (length digits) then None else value_up_to limit 16 digits

-- 1 to 16 digits
abbrev pub long_number : List ℕ → Option ℕ
long_number digits = hexadecimal 16 (2 ^ 64 - 1) digits

-- 1 to 8 digits
abbrev pub short_number : List ℕ → Option ℕ
short_number digits = hexadecimal 8 (2 ^ 32 - 1) digits

-- two numbers of 1 to 16 digits, with a comma between them
abbrev pub two_numbers : List ℕ → Option (ℕ × ℕ)
two_numbers text = do
  parts ← cut_at (byte ",") text
  first ← long_number parts.0
  second ← long_number parts.1
  Some (first, second)
