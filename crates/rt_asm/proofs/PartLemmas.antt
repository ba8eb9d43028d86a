-- The two parts of a number, as LUI or AUIPC and a second instruction give it.
use Rattle.rt_asm.proofs.Common.{◌≡◌, ℕ, pos, ◌*◌, ◌^◌, ◌<◌, arith, ints, nat_tests, signed}
use Rattle.std.specs.Prelude.{◌+ℤ◌}
use Rattle.rt_isa.specs.Numbers.{IsImmediate, IsUpper}
use Rattle.rt_words.specs.Modular.{modulo}
use Rattle.rt_asm.specs.Numbers.{lower_part, upper_part}

pub parts_sum : (n : ℕ) → n < 2 ^ 32 → modulo 32 (pos (upper_part n * 2 ^ 12) +ℤ lower_part n) ≡ n
unfolding signed
parts_sum n small = grind (arith, ints, nat_tests)

pub low_fits : (n : ℕ) → IsImmediate (lower_part n)
unfolding signed
low_fits n = record { from = grind (arith, ints, nat_tests); to = grind (arith, ints, nat_tests) }

pub high_fits : (n : ℕ) → IsUpper (upper_part n)
high_fits n = omega arith
