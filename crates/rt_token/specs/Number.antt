-- The numbers of assembly text.
use Rattle.std.specs.Prelude.{ℕ, Bool, ℤ, pos, neg_ℤ, ◌==◌, ◌&&◌, ◌||◌, ◌-◌, ◌^◌, nat_lt, nat_le, length, if◌then◌else◌, List, [], ◌∷◌, Option, Some, None}
use Rattle.std.specs.Char.{is_digit}
use Rattle.std.specs.List.{list_all}
use Rattle.std.specs.Option.{option_map}
use Rattle.std.specs.Str.{byte}
use Rattle.std.specs.Str.Parse.{digits_value}

-- at least one digit of this base, and nothing else
abbrev pub are_digits : ℕ → List ℕ → Bool
are_digits radix ds = nat_lt 0 (length ds) && list_all (λ d. is_digit d radix) ds

-- the value of such digits, where it is at most the limit
abbrev pub value_up_to : ℕ → ℕ → List ℕ → Option ℕ
value_up_to limit radix ds =
    if are_digits radix ds && nat_le (digits_value radix ds) limit then Some (digits_value radix ds) else None

-- what may follow a first digit 0: nothing, or 'x' or 'X' and hexadecimal digits, or 'b' or 'B' and binary ones
abbrev pub after_zero : ℕ → List ℕ → Option ℕ
after_zero limit [] = Some 0
after_zero limit (b ∷ bs) =
    if b == byte "x" || b == byte "X" then value_up_to limit 16 bs
    else (if b == byte "b" || b == byte "B" then value_up_to limit 2 bs
    else None)

-- a number without sign of at most the limit; a decimal one has no leading 0
abbrev pub magnitude : ℕ → List ℕ → Option ℕ
magnitude limit [] = None
magnitude limit (b ∷ bs) = if b == byte "0" then after_zero limit bs else value_up_to limit 10 (b ∷ bs)

-- a number from -2^31 to 2^32 - 1, with '-' directly before one below 0
abbrev pub number : List ℕ → Option ℤ
number [] = None
number (b ∷ bs) =
    if b == byte "-" then option_map (λ m. neg_ℤ (pos m)) (magnitude (2 ^ 31) bs)
    else option_map pos (magnitude (2 ^ 32 - 1) (b ∷ bs))
