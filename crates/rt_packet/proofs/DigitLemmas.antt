-- The two digits of a sum that goes out.
use Rattle.rt_packet.proofs.Common.{◌≡◌, ℕ, ◌+◌, ◌*◌, ◌/◌, ◌%◌, ◌<◌, true, eqb, ltb, [], ◌∷◌, refl, arith, lt-ltb, eq-eqb, hex}
use Rattle.std.specs.Char.{digit_value, digit_char}
use Rattle.std.proofs.lemmas.Str.{digit_value-digit_char}
use Rattle.rt_packet.specs.Frame.{says}

pub hex_two : (total : ℕ) → hex 2 total ≡ digit_char (total / 16 % 16) ∷ digit_char (total % 16) ∷ []
unfolding hex
hex_two total = refl

says_digits : (high low total : ℕ) → high < 16 → low < 16 → 16 * high + low ≡ total → says (digit_char high) (digit_char low) total ≡ true
says_digits high low total small small' is =
    let first : digit_value (digit_char high) ≡ high = digit_value-digit_char high (omega arith) in
    let second : digit_value (digit_char low) ≡ low = digit_value-digit_char low (omega arith) in
    let high_is : ltb (digit_value (digit_char high)) 16 ≡ true = rw first (lt-ltb _ _ small) in
    let low_is : ltb (digit_value (digit_char low)) 16 ≡ true = rw second (lt-ltb _ _ small') in
    let value_is : eqb (16 * digit_value (digit_char high) + digit_value (digit_char low)) total ≡ true = rw (first, second) (eq-eqb _ _ is) in
    rw (high_is, low_is, value_is) refl

-- the digits of a sum say it
pub says_hex : (total : ℕ) → total < 256 → says (digit_char (total / 16 % 16)) (digit_char (total % 16)) total ≡ true
says_hex total small = says_digits (total / 16 % 16) (total % 16) total (omega arith) (omega arith) (omega arith)
