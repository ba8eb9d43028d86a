-- The ranges of the small numbers in an instruction (RISC-V Unprivileged ISA 20191213, chapter 2).
use Rattle.std.specs.Prelude.{ℕ, ℤ, pos, negsuc, ◌≤ℤ◌, ◌<◌, ◌%◌, ◌≡◌, ◌^◌}

-- a register's number (2.1)
abbrev pub IsRegister : ℕ → Type 0
IsRegister n = n < 32

-- a shift amount (2.4.1)
abbrev pub IsShiftAmount : ℕ → Type 0
IsShiftAmount n = n < 32

-- the upper 20 bits of a word (2.4.1)
abbrev pub IsUpper : ℕ → Type 0
IsUpper n = n < 2 ^ 20

-- the upper 12 bits of a FENCE: fm, predecessor set and successor set (2.7)
abbrev pub IsOrder : ℕ → Type 0
IsOrder n = n < 2 ^ 12

abbrev pub IsEven : ℤ → Type 0
IsEven (pos n) = n % 2 ≡ 0
IsEven (negsuc n) = n % 2 ≡ 1

-- a signed 12-bit immediate (2.3)
pub record IsImmediate (i : ℤ) : Type 0 where
  pub from : negsuc 2047 ≤ℤ i
  pub to : i ≤ℤ pos 2047

-- the distance of a branch, in bytes (2.5.2)
pub record IsBranchOffset (i : ℤ) : Type 0 where
  pub from : negsuc 4095 ≤ℤ i
  pub to : i ≤ℤ pos 4094
  pub even : IsEven i

-- the distance of a jump, in bytes (2.5.1)
pub record IsJumpOffset (i : ℤ) : Type 0 where
  pub from : negsuc 1048575 ≤ℤ i
  pub to : i ≤ℤ pos 1048574
  pub even : IsEven i
