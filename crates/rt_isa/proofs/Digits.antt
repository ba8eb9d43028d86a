-- Digits of small numbers.
use Rattle.rt_isa.proofs.Common.{◌≡◌, ℕ, ◌+◌, ◌-◌, ◌/◌, ◌%◌, ◌<◌, [], ◌∷◌, refl, arith, hex}
use Rattle.std.proofs.Common.{◌≤◌, decimal, take, drop}
use Rattle.std.proofs.lemmas.Fmt.{decimal_step, decimal_digit}

-- the digits of a number that has two
pub two_digits : (n : ℕ) → 10 ≤ n → n < 100 → decimal n ≡ (48 + n / 10) ∷ (48 + n % 10) ∷ []
two_digits n large small = rw (decimal_step n large (omega arith), decimal_digit (n / 10) (omega arith)) refl

-- the last five digits of eight
pub last_five : (n : ℕ) → take (8 - 3) (drop 3 (hex 8 n)) ≡ hex 5 n
unfolding hex
last_five n = refl
