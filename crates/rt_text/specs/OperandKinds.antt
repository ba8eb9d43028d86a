-- Which operands a statement has, by the form of its name.
use Rattle.std.specs.Prelude.{Bool, true, false, ◌&&◌, is_some, if◌then◌else◌, List, [], ◌∷◌, Option, Some, None}
use Rattle.rt_text.specs.Shapes.{register, number_in, target_in, memory_in, fence_set, word_in, text_in}
use Rattle.rt_text.specs.declared.operands.Operand.{Operand}
use Rattle.rt_text.specs.declared.forms.Form.{Form}
use Rattle.rt_text.specs.declared.forms.Form.TheVariants as form
use Rattle.rt_text.specs.declared.forms.OperationForm.{OperationForm}
use Rattle.rt_text.specs.declared.forms.OperationForm.TheVariants.{Upper, LoadNumber, Immediate, Shift, Register, Unary, Load, Store}
use Rattle.rt_text.specs.declared.forms.TransferForm.{TransferForm}
use Rattle.rt_text.specs.declared.forms.TransferForm.TheVariants.{JumpAndLink, JumpAndLinkRegister, Branch, ZeroBranch, JumpTo, JumpRegister, LoadAddress}
use Rattle.rt_text.specs.declared.forms.DirectiveForm.{DirectiveForm}
use Rattle.rt_text.specs.declared.forms.DirectiveForm.TheVariants.{Section, Symbol, Bytes, Halves, Words, Zero, Align, Text}
use Rattle.rt_text.specs.declared.operand_kinds.OperandKind.{OperandKind}
use Rattle.rt_text.specs.declared.operand_kinds.OperandKind.TheVariants as kind

-- an operand may stand where this kind is wanted
abbrev pub is_kind : OperandKind → Operand → Bool
is_kind kind.Written o = is_some (register o)
is_kind kind.First o = is_some (register o)
is_kind kind.Second o = is_some (register o)
is_kind kind.Number o = is_some (number_in o)
is_kind kind.Amount o = is_some (number_in o)
is_kind kind.Target o = is_some (target_in o)
is_kind kind.Memory o = is_some (memory_in o)
is_kind kind.Before o = is_some (fence_set o)
is_kind kind.After o = is_some (fence_set o)
is_kind kind.Symbol o = is_some (word_in o)
is_kind kind.Item o = is_some (target_in o)
is_kind kind.Text o = is_some (text_in o)
is_kind kind.MoreNumbers o = is_some (number_in o)
is_kind kind.MoreItems o = is_some (target_in o)

-- any number of such operands may stand there, and none
abbrev pub is_more : OperandKind → Bool
is_more kind.MoreNumbers = true
is_more kind.MoreItems = true
is_more _ = false

-- the kinds that are wanted behind an operand of a kind
abbrev pub behind : OperandKind → List OperandKind → List OperandKind
behind k ks = if is_more k then k ∷ ks else ks

-- the operands have these kinds
abbrev pub fit : List OperandKind → List Operand → Bool
fit [] [] = true
fit [] (o ∷ os) = false
fit (k ∷ ks) [] = is_more k
fit (k ∷ ks) (o ∷ os) = is_kind k o && fit (behind k ks) os

-- the kinds of operands of an operation
abbrev pub operation_shapes : OperationForm → List (List OperandKind)
operation_shapes (Upper op) = (kind.Written ∷ kind.Number ∷ []) ∷ []
operation_shapes LoadNumber = (kind.Written ∷ kind.Number ∷ []) ∷ []
operation_shapes (Immediate op) = (kind.Written ∷ kind.First ∷ kind.Number ∷ []) ∷ []
operation_shapes (Shift op) = (kind.Written ∷ kind.First ∷ kind.Amount ∷ []) ∷ []
operation_shapes (Register op) = (kind.Written ∷ kind.First ∷ kind.Second ∷ []) ∷ []
operation_shapes (Unary op) = (kind.Written ∷ kind.First ∷ []) ∷ []
operation_shapes (Load op) = (kind.Written ∷ kind.Memory ∷ []) ∷ []
operation_shapes (Store op) = (kind.Second ∷ kind.Memory ∷ []) ∷ []

-- of a jump, a branch or an address, one list for each way to write them
abbrev pub transfer_shapes : TransferForm → List (List OperandKind)
transfer_shapes JumpAndLink = (kind.Written ∷ kind.Target ∷ []) ∷ (kind.Target ∷ []) ∷ []
transfer_shapes JumpAndLinkRegister =
    (kind.Written ∷ kind.Memory ∷ []) ∷ (kind.Written ∷ kind.First ∷ kind.Number ∷ []) ∷ (kind.Written ∷ kind.First ∷ []) ∷ (kind.First ∷ []) ∷ []
transfer_shapes (Branch op) = (kind.First ∷ kind.Second ∷ kind.Target ∷ []) ∷ []
transfer_shapes (ZeroBranch op) = (kind.First ∷ kind.Target ∷ []) ∷ []
transfer_shapes (JumpTo op) = (kind.Target ∷ []) ∷ []
transfer_shapes JumpRegister = (kind.First ∷ []) ∷ []
transfer_shapes LoadAddress = (kind.Written ∷ kind.Target ∷ []) ∷ []

-- of a directive
abbrev pub directive_shapes : DirectiveForm → List (List OperandKind)
directive_shapes Section = [] ∷ []
directive_shapes Symbol = (kind.Symbol ∷ []) ∷ []
directive_shapes Bytes = (kind.Number ∷ kind.MoreNumbers ∷ []) ∷ []
directive_shapes Halves = (kind.Number ∷ kind.MoreNumbers ∷ []) ∷ []
directive_shapes Words = (kind.Item ∷ kind.MoreItems ∷ []) ∷ []
directive_shapes Zero = (kind.Number ∷ []) ∷ []
directive_shapes Align = (kind.Number ∷ []) ∷ []
directive_shapes (Text op) = (kind.Text ∷ []) ∷ []

-- of a form
abbrev pub shapes_of : Form → List (List OperandKind)
shapes_of (form.Operation f) = operation_shapes f
shapes_of (form.Transfer f) = transfer_shapes f
shapes_of form.Fence = [] ∷ (kind.Before ∷ kind.After ∷ []) ∷ []
shapes_of (form.Plain op) = [] ∷ []
shapes_of (form.Directive f) = directive_shapes f

-- of a name, if it has one
abbrev pub shapes_by : Option Form → List (List OperandKind)
shapes_by None = []
shapes_by (Some f) = shapes_of f
