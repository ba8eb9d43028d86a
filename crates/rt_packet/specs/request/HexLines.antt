-- Lines that are written in hexadecimal digits, two for each byte.
use Rattle.std.specs.Prelude.{ℕ, ◌+◌, ◌*◌, ◌%◌, ◌==◌, ◌&&◌, Bool, length, List, [], ◌∷◌, Option, if◌then◌else◌}
use Rattle.std.specs.Char.{is_digit, digit_value}
use Rattle.std.specs.List.{list_all}
use Rattle.rt_words.specs.Found.{when}

-- the bytes are hexadecimal digits, of either case, an even number of them
abbrev pub are_pairs : List ℕ → Bool
are_pairs text = (length text % 2 == 0) && list_all (λ b. is_digit b 16) text

-- the value of a digit
abbrev pub digit_of : ℕ → ℕ
digit_of b = if is_digit b 16 then digit_value b else 0

-- the byte of two digits, the higher one first
abbrev pub byte_of : ℕ → ℕ → ℕ
byte_of high low = digit_of high * 16 + digit_of low

-- the bytes of digits
abbrev pub hex_bytes : List ℕ → List ℕ
hex_bytes (high ∷ low ∷ more) = byte_of high low ∷ hex_bytes more
hex_bytes _ = []

-- the line that a text writes
abbrev pub hex_line : List ℕ → Option (List ℕ)
hex_line text = when (are_pairs text) (hex_bytes text)
