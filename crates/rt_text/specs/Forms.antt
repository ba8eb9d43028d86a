-- The names that a statement may begin with, each with the form of its operands.
use Rattle.std.specs.Prelude.{ℕ, List, [], ◌∷◌, Option, codes}
use Rattle.rt_text.specs.Names.{value_of}
use Rattle.rt_text.specs.declared.forms.Form.{Form}
use Rattle.rt_text.specs.declared.forms.Form.TheVariants.{Operation, Transfer, Fence, Plain, Directive}
use Rattle.rt_text.specs.declared.forms.OperationForm.TheVariants as operation
use Rattle.rt_text.specs.declared.forms.TransferForm.TheVariants as transfer
use Rattle.rt_text.specs.declared.forms.DirectiveForm.TheVariants as directive
use Rattle.rt_text.specs.declared.operations.UpperOp.TheVariants as upper
use Rattle.rt_text.specs.declared.operations.BranchOp.TheVariants as branch
use Rattle.rt_text.specs.declared.operations.ZeroBranchOp.TheVariants as zero_branch
use Rattle.rt_text.specs.declared.operations.LoadOp.TheVariants as loads
use Rattle.rt_text.specs.declared.operations.StoreOp.TheVariants as stores
use Rattle.rt_text.specs.declared.operations.ImmediateOp.TheVariants as immediate
use Rattle.rt_text.specs.declared.operations.ShiftOp.TheVariants as shifts
use Rattle.rt_text.specs.declared.operations.RegisterOp.TheVariants as register
use Rattle.rt_text.specs.declared.operations.UnaryOp.TheVariants as unary
use Rattle.rt_text.specs.declared.operations.PlainOp.TheVariants as plain
use Rattle.rt_text.specs.declared.operations.JumpOp.TheVariants as jump
use Rattle.rt_text.specs.declared.operations.TextOp.TheVariants as texts

-- the 40 rows of RV32I (RISC-V Unprivileged ISA 20191213, chapter 2), the pseudo-instructions (chapter 25, tables 25.2 and 25.3), and the directives
unfoldable pub forms : List (List ℕ × Form)
forms =
    (codes "lui", Operation (operation.Upper upper.Lui)) ∷
    (codes "auipc", Operation (operation.Upper upper.Auipc)) ∷
    (codes "jal", Transfer transfer.JumpAndLink) ∷
    (codes "jalr", Transfer transfer.JumpAndLinkRegister) ∷
    (codes "beq", Transfer (transfer.Branch branch.Beq)) ∷
    (codes "bne", Transfer (transfer.Branch branch.Bne)) ∷
    (codes "blt", Transfer (transfer.Branch branch.Blt)) ∷
    (codes "bge", Transfer (transfer.Branch branch.Bge)) ∷
    (codes "bltu", Transfer (transfer.Branch branch.Bltu)) ∷
    (codes "bgeu", Transfer (transfer.Branch branch.Bgeu)) ∷
    (codes "lb", Operation (operation.Load loads.Lb)) ∷
    (codes "lh", Operation (operation.Load loads.Lh)) ∷
    (codes "lw", Operation (operation.Load loads.Lw)) ∷
    (codes "lbu", Operation (operation.Load loads.Lbu)) ∷
    (codes "lhu", Operation (operation.Load loads.Lhu)) ∷
    (codes "sb", Operation (operation.Store stores.Sb)) ∷
    (codes "sh", Operation (operation.Store stores.Sh)) ∷
    (codes "sw", Operation (operation.Store stores.Sw)) ∷
    (codes "addi", Operation (operation.Immediate immediate.Addi)) ∷
    (codes "slti", Operation (operation.Immediate immediate.Slti)) ∷
    (codes "sltiu", Operation (operation.Immediate immediate.Sltiu)) ∷
    (codes "xori", Operation (operation.Immediate immediate.Xori)) ∷
    (codes "ori", Operation (operation.Immediate immediate.Ori)) ∷
    (codes "andi", Operation (operation.Immediate immediate.Andi)) ∷
    (codes "slli", Operation (operation.Shift shifts.Slli)) ∷
    (codes "srli", Operation (operation.Shift shifts.Srli)) ∷
    (codes "srai", Operation (operation.Shift shifts.Srai)) ∷
    (codes "add", Operation (operation.Register register.Add)) ∷
    (codes "sub", Operation (operation.Register register.Sub)) ∷
    (codes "sll", Operation (operation.Register register.Sll)) ∷
    (codes "slt", Operation (operation.Register register.Slt)) ∷
    (codes "sltu", Operation (operation.Register register.Sltu)) ∷
    (codes "xor", Operation (operation.Register register.Xor)) ∷
    (codes "srl", Operation (operation.Register register.Srl)) ∷
    (codes "sra", Operation (operation.Register register.Sra)) ∷
    (codes "or", Operation (operation.Register register.Or)) ∷
    (codes "and", Operation (operation.Register register.And)) ∷
    (codes "fence", Fence) ∷
    (codes "ecall", Plain plain.Ecall) ∷
    (codes "ebreak", Plain plain.Ebreak) ∷
    (codes "nop", Plain plain.Nop) ∷
    (codes "mv", Operation (operation.Unary unary.Mv)) ∷
    (codes "not", Operation (operation.Unary unary.Not)) ∷
    (codes "neg", Operation (operation.Unary unary.Neg)) ∷
    (codes "seqz", Operation (operation.Unary unary.Seqz)) ∷
    (codes "snez", Operation (operation.Unary unary.Snez)) ∷
    (codes "sltz", Operation (operation.Unary unary.Sltz)) ∷
    (codes "sgtz", Operation (operation.Unary unary.Sgtz)) ∷
    (codes "beqz", Transfer (transfer.ZeroBranch zero_branch.Beqz)) ∷
    (codes "bnez", Transfer (transfer.ZeroBranch zero_branch.Bnez)) ∷
    (codes "blez", Transfer (transfer.ZeroBranch zero_branch.Blez)) ∷
    (codes "bgez", Transfer (transfer.ZeroBranch zero_branch.Bgez)) ∷
    (codes "bltz", Transfer (transfer.ZeroBranch zero_branch.Bltz)) ∷
    (codes "bgtz", Transfer (transfer.ZeroBranch zero_branch.Bgtz)) ∷
    (codes "bgt", Transfer (transfer.Branch branch.Bgt)) ∷
    (codes "ble", Transfer (transfer.Branch branch.Ble)) ∷
    (codes "bgtu", Transfer (transfer.Branch branch.Bgtu)) ∷
    (codes "bleu", Transfer (transfer.Branch branch.Bleu)) ∷
    (codes "j", Transfer (transfer.JumpTo jump.J)) ∷
    (codes "call", Transfer (transfer.JumpTo jump.Call)) ∷
    (codes "tail", Transfer (transfer.JumpTo jump.Tail)) ∷
    (codes "jr", Transfer transfer.JumpRegister) ∷
    (codes "ret", Plain plain.Ret) ∷
    (codes "la", Transfer transfer.LoadAddress) ∷
    (codes "li", Operation operation.LoadNumber) ∷
    (codes ".text", Directive directive.Section) ∷
    (codes ".globl", Directive directive.Symbol) ∷
    (codes ".global", Directive directive.Symbol) ∷
    (codes ".byte", Directive directive.Bytes) ∷
    (codes ".half", Directive directive.Halves) ∷
    (codes ".2byte", Directive directive.Halves) ∷
    (codes ".word", Directive directive.Words) ∷
    (codes ".4byte", Directive directive.Words) ∷
    (codes ".zero", Directive directive.Zero) ∷
    (codes ".space", Directive directive.Zero) ∷
    (codes ".align", Directive directive.Align) ∷
    (codes ".p2align", Directive directive.Align) ∷
    (codes ".ascii", Directive (directive.Text texts.Ascii)) ∷
    (codes ".asciz", Directive (directive.Text texts.Asciz)) ∷
    (codes ".string", Directive (directive.Text texts.Asciz)) ∷ []

-- the form that a name asks for; none where the name is no instruction and no directive
abbrev pub form_of : List ℕ → Option Form
form_of name = value_of forms name
