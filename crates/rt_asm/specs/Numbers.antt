-- The numbers of a source where they stand in an image.
use Rattle.std.specs.Prelude.{ℕ, ℤ, Bool, ◌&&◌, ◌+◌, ◌/◌, ◌%◌, ◌^◌, int_le, if◌then◌else◌, Result, Ok, Err}
use Rattle.rt_isa.specs.Bits.{signed}
use Rattle.rt_asm.specs.declared.fault.AsmKind.{AsmKind}
use Rattle.rt_asm.specs.declared.fault.AsmKind.TheVariants.{OutOfRange}

abbrev pub is_between : ℤ → ℤ → ℤ → Bool
is_between low high n = int_le low n && int_le n high

-- the number, where it is from low to high
abbrev pub between : ℤ → ℤ → ℤ → Result ℤ AsmKind
between low high n = if is_between low high n then Ok n else Err OutOfRange

-- A number below 2^32 as LUI or AUIPC and a second instruction give it (RISC-V Unprivileged ISA 20191213, 2.4 and 2.5):
-- the second adds the low 12 bits, which have a sign, and the upper 20 carry what it takes away.
abbrev pub lower_part : ℕ → ℤ
lower_part n = signed 12 (n % 2 ^ 12)

abbrev pub upper_part : ℕ → ℕ
upper_part n = (n + 0x800) / 2 ^ 12 % 2 ^ 20
