-- The operands of an instruction that is no longer a word.
use Rattle.std.specs.Prelude.{ℕ, Option, Some}
use Rattle.rt_isa.specs.Print.{Operands, Bare, Upper, Jump, Branch, Memory, Immediate, Shift, Registers, target, fence_operands}
use Rattle.rt_isa.specs.declared.instruction.Ins.{Ins}
use Rattle.rt_isa.specs.declared.instruction.Ins.TheVariants.{Lui, Auipc, Jal, Jalr, Beq, Bne, Blt, Bge, Bltu, Bgeu, Lb, Lh, Lw, Lbu, Lhu, Sb, Sh, Sw, Addi, Slti, Sltiu, Xori, Ori, Andi, Slli, Srli, Srai, Add, Sub, Sll, Slt, Sltu, Xor, Srl, Sra, Or, And, Fence, Ecall, Ebreak}

-- those of its row's format (d is rd, a is rs1, b is rs2)
unfoldable pub operands_of : ℕ → Ins → Option Operands
operands_of pc (Lui d i) = Some (Upper d i)
operands_of pc (Auipc d i) = Some (Upper d i)
operands_of pc (Jal d i) = Some (Jump d (target pc i))
operands_of pc (Jalr d a i) = Some (Memory d i a)
operands_of pc (Beq a b i) = Some (Branch a b (target pc i))
operands_of pc (Bne a b i) = Some (Branch a b (target pc i))
operands_of pc (Blt a b i) = Some (Branch a b (target pc i))
operands_of pc (Bge a b i) = Some (Branch a b (target pc i))
operands_of pc (Bltu a b i) = Some (Branch a b (target pc i))
operands_of pc (Bgeu a b i) = Some (Branch a b (target pc i))
operands_of pc (Lb d a i) = Some (Memory d i a)
operands_of pc (Lh d a i) = Some (Memory d i a)
operands_of pc (Lw d a i) = Some (Memory d i a)
operands_of pc (Lbu d a i) = Some (Memory d i a)
operands_of pc (Lhu d a i) = Some (Memory d i a)
operands_of pc (Sb a b i) = Some (Memory b i a)
operands_of pc (Sh a b i) = Some (Memory b i a)
operands_of pc (Sw a b i) = Some (Memory b i a)
operands_of pc (Addi d a i) = Some (Immediate d a i)
operands_of pc (Slti d a i) = Some (Immediate d a i)
operands_of pc (Sltiu d a i) = Some (Immediate d a i)
operands_of pc (Xori d a i) = Some (Immediate d a i)
operands_of pc (Ori d a i) = Some (Immediate d a i)
operands_of pc (Andi d a i) = Some (Immediate d a i)
operands_of pc (Slli d a n) = Some (Shift d a n)
operands_of pc (Srli d a n) = Some (Shift d a n)
operands_of pc (Srai d a n) = Some (Shift d a n)
operands_of pc (Add d a b) = Some (Registers d a b)
operands_of pc (Sub d a b) = Some (Registers d a b)
operands_of pc (Sll d a b) = Some (Registers d a b)
operands_of pc (Slt d a b) = Some (Registers d a b)
operands_of pc (Sltu d a b) = Some (Registers d a b)
operands_of pc (Xor d a b) = Some (Registers d a b)
operands_of pc (Srl d a b) = Some (Registers d a b)
operands_of pc (Sra d a b) = Some (Registers d a b)
operands_of pc (Or d a b) = Some (Registers d a b)
operands_of pc (And d a b) = Some (Registers d a b)
operands_of pc (Fence d a order) = fence_operands d a order
operands_of pc Ecall = Some Bare
operands_of pc Ebreak = Some Bare
