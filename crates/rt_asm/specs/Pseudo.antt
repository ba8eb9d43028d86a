-- The pseudo-instructions of two rows (RISC-V Unprivileged ISA 20191213, chapter 25, tables 25.2 and 25.3).
use Rattle.std.specs.Prelude.{ℕ, pos, negsuc, ◌%◌, ◌^◌, ◌==◌, List, [], ◌∷◌, if◌then◌else◌}
use Rattle.rt_isa.specs.Bits.{signed}
use Rattle.rt_isa.specs.declared.instruction.Ins.{Ins}
use Rattle.rt_isa.specs.declared.instruction.Ins.TheVariants.{Lui, Auipc, Jalr, Addi}
use Rattle.rt_asm.specs.Numbers.{is_between, lower_part, upper_part}

-- what LUI leaves of a number
abbrev pub add_rest : ℕ → ℕ → List Ins
add_rest d n = if n % 2 ^ 12 == 0 then [] else Addi d d (lower_part n) ∷ []

-- `li`: a number below 2^32 into a register
abbrev pub load_number : ℕ → ℕ → List Ins
load_number d n =
    if is_between (negsuc 2047) (pos 2047) (signed 32 n) then Addi d 0 (signed 32 n) ∷ []
    else Lui d (upper_part n) ∷ add_rest d n

-- `la`: the address at this distance into a register
abbrev pub load_address : ℕ → ℕ → List Ins
load_address d n = Auipc d (upper_part n) ∷ Addi d d (lower_part n) ∷ []

-- `call` and `tail`: a jump to the address at this distance, through a register
abbrev pub far_jump : ℕ → ℕ → ℕ → List Ins
far_jump link through n = Auipc through (upper_part n) ∷ Jalr link through (lower_part n) ∷ []
