-- Sums and differences of 32 bits, which wrap (RISC-V Unprivileged ISA 20191213, 2.4).
use Rattle.std.specs.Prelude.{ℕ, ℤ, pos, ◌+◌, ◌-◌, ◌%◌, ◌^◌, unsigned_abs}
use Rattle.std.specs.Int.{int_rem_euclid}

abbrev pub sum32 : ℕ → ℕ → ℕ
sum32 a b = (a + b) % 2 ^ 32

abbrev pub difference32 : ℕ → ℕ → ℕ
difference32 a b = (a + (2 ^ 32 - b)) % 2 ^ 32

-- a whole number modulo 2^k
abbrev pub modulo : ℕ → ℤ → ℕ
modulo k n = unsigned_abs (int_rem_euclid n (pos (2 ^ k)))
