-- The sets of accesses that a FENCE orders (RISC-V Unprivileged ISA 20191213, 2.7).
use Rattle.std.specs.Prelude.{ℕ, ◌<◌}

-- four bits: device input 8, device output 4, memory reads 2, memory writes 1
abbrev pub IsFenceSet : ℕ → Type 0
IsFenceSet bits = bits < 16
