-- Rows of instructions alone: what each leaves in a register, where control goes, and what is read and written.
use Rattle.std.specs.Prelude.{◌≡◌, ℕ, pos, negsuc, false, List, [], ◌∷◌, map}
use Rattle.rt_isa.specs.declared.instruction.Ins.{Ins}
use Rattle.rt_isa.specs.declared.instruction.Ins.TheVariants.{Lui, Auipc, Jal, Jalr, Beq, Bne, Blt, Bge, Bltu, Bgeu, Lb, Lh, Lw, Lbu, Lhu, Sb, Sh, Sw, Addi, Slti, Sltiu, Xori, Ori, Andi, Slli, Srli, Srai, Add, Sub, Sll, Slt, Sltu, Xor, Srl, Sra, Or, And, Fence}
use Rattle.rt_exec.specs.State.{State}
use Rattle.rt_exec.specs.Effect.{Goes, effect}

-- the fifth word is executed, with these numbers in x1 and x2, and 8 bytes of RAM
abbrev pub holding : ℕ → ℕ → State
holding a b = record { pc = 0x80000010; x = 0 ∷ a ∷ b ∷ 0 ∷ []; ram = 0x81 ∷ 0x82 ∷ 0x83 ∷ 0x04 ∷ 0x05 ∷ 0x06 ∷ 0x07 ∷ 0x88 ∷ [] }

-- each of these instructions leaves the state beside it
abbrev pub Leave : State → List (Ins × State) → Type 0
Leave s rows = map (λ r. effect false r.0 s) rows ≡ map (λ r. Goes r.1) rows

-- each leaves this number in x3, and goes on
abbrev pub LeaveInX3 : ℕ → ℕ → List (Ins × ℕ) → Type 0
LeaveInX3 a b rows = Leave (holding a b) (map (λ r. (r.0, record (holding a b) { pc = 0x80000014; x = 0 ∷ a ∷ b ∷ r.1 ∷ [] })) rows)

-- each goes to this address, and keeps all else
abbrev pub GoTo : ℕ → ℕ → List (Ins × ℕ) → Type 0
GoTo a b rows = Leave (holding a b) (map (λ r. (r.0, record (holding a b) { pc = r.1 })) rows)

-- a number that is negative with its sign, and a number above 32, of which the low five bits are an amount of one
abbrev pub of_registers : List (Ins × ℕ)
of_registers =
    (Add 3 1 2, 0x80000022) ∷ (Sub 3 1 2, 0x7FFFFFE0) ∷ (Sub 3 2 1, 0x80000020) ∷ (Sll 3 1 2, 0x00000002) ∷ (Srl 3 1 2, 0x40000000)
    ∷ (Sra 3 1 2, 0xC0000000) ∷ (Slt 3 1 2, 1) ∷ (Slt 3 2 1, 0) ∷ (Sltu 3 1 2, 0) ∷ (Sltu 3 2 1, 1)
    ∷ (Xor 3 1 2, 0x80000020) ∷ (Or 3 1 2, 0x80000021) ∷ (And 3 1 2, 0x00000001) ∷ []

-- immediates of which the sign is extended, also where numbers without signs are compared
abbrev pub of_immediates : List (Ins × ℕ)
of_immediates =
    (Addi 3 1 (negsuc 1), 0x7FFFFFFF) ∷ (Slti 3 1 (negsuc 0), 1) ∷ (Slti 3 2 (negsuc 0), 0) ∷ (Sltiu 3 1 (negsuc 0), 1) ∷ (Sltiu 3 1 (pos 2047), 0)
    ∷ (Xori 3 1 (negsuc 0), 0x7FFFFFFE) ∷ (Ori 3 1 (negsuc 255), 0xFFFFFF01) ∷ (Andi 3 1 (negsuc 15), 0x80000000) ∷ []

-- a shift to the right that is signed rounds down
abbrev pub of_amounts : List (Ins × ℕ)
of_amounts =
    (Slli 3 1 31, 0x80000000) ∷ (Slli 3 2 1, 0x00000042) ∷ (Srli 3 1 31, 1) ∷ (Srai 3 1 31, 0xFFFFFFFF) ∷ (Srai 3 1 1, 0xC0000000) ∷ (Srai 3 2 1, 16) ∷ []

-- sums with the instruction's own address, modulo 2^32
abbrev pub of_upper_numbers : List (Ins × ℕ)
of_upper_numbers = (Lui 3 0xFFFFF, 0xFFFFF000) ∷ (Auipc 3 1, 0x80001010) ∷ (Auipc 3 0x80001, 0x00001010) ∷ []

-- two that are equal are less neither with their signs nor without
abbrev pub of_equals : List (Ins × ℕ)
of_equals = (Slt 3 1 2, 0) ∷ (Sltu 3 1 2, 0) ∷ (Sub 3 1 2, 0) ∷ []

-- bytes at the first address of RAM, and behind it; negative ones are extended
abbrev pub of_loads : List (Ins × ℕ)
of_loads =
    (Lb 3 1 (pos 0), 0xFFFFFF81) ∷ (Lb 3 1 (pos 3), 0x04) ∷ (Lbu 3 1 (pos 0), 0x81) ∷ (Lh 3 1 (pos 0), 0xFFFF8281) ∷ (Lh 3 1 (pos 2), 0x0483)
    ∷ (Lhu 3 1 (pos 0), 0x8281) ∷ (Lw 3 1 (pos 4), 0x88070605) ∷ (Lb 3 2 (negsuc 0), 0xFFFFFF88) ∷ []

-- 1 and 2^32 - 1, which is -1 with its sign: to 16 bytes further, or 16 back, or not
abbrev pub of_branches : List (Ins × ℕ)
of_branches =
    (Beq 1 2 (pos 16), 0x80000014) ∷ (Beq 1 1 (negsuc 15), 0x80000000) ∷ (Bne 1 2 (pos 16), 0x80000020) ∷ (Bne 1 1 (pos 16), 0x80000014)
    ∷ (Blt 1 2 (pos 16), 0x80000014) ∷ (Blt 2 1 (pos 16), 0x80000020) ∷ (Blt 1 1 (pos 16), 0x80000014)
    ∷ (Bge 1 2 (pos 16), 0x80000020) ∷ (Bge 2 1 (pos 16), 0x80000014) ∷ (Bge 1 1 (pos 16), 0x80000020)
    ∷ (Bltu 1 2 (pos 16), 0x80000020) ∷ (Bltu 2 1 (pos 16), 0x80000014) ∷ (Bltu 1 1 (pos 16), 0x80000014)
    ∷ (Bgeu 1 2 (pos 16), 0x80000014) ∷ (Bgeu 2 1 (pos 16), 0x80000020) ∷ (Bgeu 1 1 (pos 16), 0x80000020) ∷ []

-- each jumps there, and leaves the address behind it in the register of this number
abbrev pub jumped : ℕ → List ℕ → State
jumped target x = record (holding 0x80000020 2) { pc = target; x = x }

abbrev pub of_jumps : List (Ins × State)
of_jumps =
    (Jal 3 (negsuc 15), jumped 0x80000000 (0 ∷ 0x80000020 ∷ 2 ∷ 0x80000014 ∷ []))
    ∷ (Jalr 3 1 (pos 5), jumped 0x80000024 (0 ∷ 0x80000020 ∷ 2 ∷ 0x80000014 ∷ []))
    ∷ (Jalr 1 1 (negsuc 3), jumped 0x8000001C (0 ∷ 0x80000014 ∷ 2 ∷ 0 ∷ []))
    ∷ (Jalr 0 1 (pos 0), jumped 0x80000020 (0 ∷ 0x80000020 ∷ 2 ∷ 0 ∷ []))
    ∷ []

-- the bytes of RAM behind a store
abbrev pub stored : List ℕ → State
stored ram = record (holding 0x80000000 0xAABBCCDD) { pc = 0x80000014; ram = ram }

abbrev pub of_stores : List (Ins × State)
of_stores =
    (Sb 1 2 (pos 3), stored (0x81 ∷ 0x82 ∷ 0x83 ∷ 0xDD ∷ 0x05 ∷ 0x06 ∷ 0x07 ∷ 0x88 ∷ []))
    ∷ (Sh 1 2 (pos 2), stored (0x81 ∷ 0x82 ∷ 0xDD ∷ 0xCC ∷ 0x05 ∷ 0x06 ∷ 0x07 ∷ 0x88 ∷ []))
    ∷ (Sw 1 2 (pos 0), stored (0xDD ∷ 0xCC ∷ 0xBB ∷ 0xAA ∷ 0x05 ∷ 0x06 ∷ 0x07 ∷ 0x88 ∷ []))
    ∷ []

-- a write of x0 is lost, and a fence writes nothing
abbrev pub of_nothing : List (Ins × ℕ)
of_nothing = (Addi 0 1 (pos 1), 0x80000014) ∷ (Fence 1 2 0, 0x80000014) ∷ []
