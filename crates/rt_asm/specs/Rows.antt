-- The rows that the mnemonics of a source name (RISC-V Unprivileged ISA 20191213, chapter 2), and the
-- pseudo-instructions of one row (chapter 25, tables 25.2 and 25.3). d is the register written, a and b are read.
use Rattle.std.specs.Prelude.{ℕ, ℤ, pos, negsuc}
use Rattle.rt_isa.specs.declared.instruction.Ins.{Ins}
use Rattle.rt_isa.specs.declared.instruction.Ins.TheVariants as row
use Rattle.rt_text.specs.declared.operations.UpperOp.{UpperOp}
use Rattle.rt_text.specs.declared.operations.UpperOp.TheVariants as uppers
use Rattle.rt_text.specs.declared.operations.BranchOp.{BranchOp}
use Rattle.rt_text.specs.declared.operations.BranchOp.TheVariants as branches
use Rattle.rt_text.specs.declared.operations.ZeroBranchOp.{ZeroBranchOp}
use Rattle.rt_text.specs.declared.operations.ZeroBranchOp.TheVariants as zero_branches
use Rattle.rt_text.specs.declared.operations.LoadOp.{LoadOp}
use Rattle.rt_text.specs.declared.operations.LoadOp.TheVariants as loads
use Rattle.rt_text.specs.declared.operations.StoreOp.{StoreOp}
use Rattle.rt_text.specs.declared.operations.StoreOp.TheVariants as stores
use Rattle.rt_text.specs.declared.operations.ImmediateOp.{ImmediateOp}
use Rattle.rt_text.specs.declared.operations.ImmediateOp.TheVariants as immediates
use Rattle.rt_text.specs.declared.operations.ShiftOp.{ShiftOp}
use Rattle.rt_text.specs.declared.operations.ShiftOp.TheVariants as shifts
use Rattle.rt_text.specs.declared.operations.RegisterOp.{RegisterOp}
use Rattle.rt_text.specs.declared.operations.RegisterOp.TheVariants as registers
use Rattle.rt_text.specs.declared.operations.UnaryOp.{UnaryOp}
use Rattle.rt_text.specs.declared.operations.UnaryOp.TheVariants as unaries
use Rattle.rt_text.specs.declared.operations.PlainOp.{PlainOp}
use Rattle.rt_text.specs.declared.operations.PlainOp.TheVariants as plains
use Rattle.rt_text.specs.declared.operations.JumpRegisterOp.{JumpRegisterOp}
use Rattle.rt_text.specs.declared.operations.JumpRegisterOp.TheVariants as jump_registers

abbrev pub upper : UpperOp → ℕ → ℕ → Ins
upper uppers.Lui d i = row.Lui d i
upper uppers.Auipc d i = row.Auipc d i

abbrev pub branch : BranchOp → ℕ → ℕ → ℤ → Ins
branch branches.Beq a b i = row.Beq a b i
branch branches.Bne a b i = row.Bne a b i
branch branches.Blt a b i = row.Blt a b i
branch branches.Bge a b i = row.Bge a b i
branch branches.Bltu a b i = row.Bltu a b i
branch branches.Bgeu a b i = row.Bgeu a b i
branch branches.Bgt a b i = row.Blt b a i
branch branches.Ble a b i = row.Bge b a i
branch branches.Bgtu a b i = row.Bltu b a i
branch branches.Bleu a b i = row.Bgeu b a i

abbrev pub zero_branch : ZeroBranchOp → ℕ → ℤ → Ins
zero_branch zero_branches.Beqz a i = row.Beq a 0 i
zero_branch zero_branches.Bnez a i = row.Bne a 0 i
zero_branch zero_branches.Blez a i = row.Bge 0 a i
zero_branch zero_branches.Bgez a i = row.Bge a 0 i
zero_branch zero_branches.Bltz a i = row.Blt a 0 i
zero_branch zero_branches.Bgtz a i = row.Blt 0 a i

abbrev pub load : LoadOp → ℕ → ℕ → ℤ → Ins
load loads.Lb d a i = row.Lb d a i
load loads.Lh d a i = row.Lh d a i
load loads.Lw d a i = row.Lw d a i
load loads.Lbu d a i = row.Lbu d a i
load loads.Lhu d a i = row.Lhu d a i

-- b is stored at a + i
abbrev pub store : StoreOp → ℕ → ℕ → ℤ → Ins
store stores.Sb a b i = row.Sb a b i
store stores.Sh a b i = row.Sh a b i
store stores.Sw a b i = row.Sw a b i

abbrev pub immediate : ImmediateOp → ℕ → ℕ → ℤ → Ins
immediate immediates.Addi d a i = row.Addi d a i
immediate immediates.Slti d a i = row.Slti d a i
immediate immediates.Sltiu d a i = row.Sltiu d a i
immediate immediates.Xori d a i = row.Xori d a i
immediate immediates.Ori d a i = row.Ori d a i
immediate immediates.Andi d a i = row.Andi d a i

abbrev pub shift : ShiftOp → ℕ → ℕ → ℕ → Ins
shift shifts.Slli d a n = row.Slli d a n
shift shifts.Srli d a n = row.Srli d a n
shift shifts.Srai d a n = row.Srai d a n

abbrev pub register : RegisterOp → ℕ → ℕ → ℕ → Ins
register registers.Add d a b = row.Add d a b
register registers.Sub d a b = row.Sub d a b
register registers.Sll d a b = row.Sll d a b
register registers.Slt d a b = row.Slt d a b
register registers.Sltu d a b = row.Sltu d a b
register registers.Xor d a b = row.Xor d a b
register registers.Srl d a b = row.Srl d a b
register registers.Sra d a b = row.Sra d a b
register registers.Or d a b = row.Or d a b
register registers.And d a b = row.And d a b

abbrev pub unary : UnaryOp → ℕ → ℕ → Ins
unary unaries.Mv d a = row.Addi d a (pos 0)
unary unaries.Not d a = row.Xori d a (negsuc 0)
unary unaries.Neg d a = row.Sub d 0 a
unary unaries.Seqz d a = row.Sltiu d a (pos 1)
unary unaries.Snez d a = row.Sltu d 0 a
unary unaries.Sltz d a = row.Slt d a 0
unary unaries.Sgtz d a = row.Slt d 0 a

-- `fence` alone is `fence iorw,iorw`
abbrev pub plain : PlainOp → Ins
plain plains.Nop = row.Addi 0 0 (pos 0)
plain plains.Ret = row.Jalr 0 1 (pos 0)
plain plains.Ecall = row.Ecall
plain plains.Ebreak = row.Ebreak
plain plains.Fence = row.Fence 0 0 0x0FF

abbrev pub jump_register : JumpRegisterOp → ℕ → Ins
jump_register jump_registers.Jr a = row.Jalr 0 a (pos 0)
jump_register jump_registers.Jalr a = row.Jalr 1 a (pos 0)
