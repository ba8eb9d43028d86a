-- What a statement means, by the form of its operands.
use Rattle.std.specs.Prelude.{pos, List, [], ◌∷◌, Option, Some, None}
use Rattle.std.specs.Option.{option_map}
use Rattle.rt_text.specs.Operands.{each}
use Rattle.rt_text.specs.Shapes.{register, number_in, target_in, memory_in, fence_set, word_in, text_in, one, two, three}
use Rattle.rt_text.specs.Strings.{string_bytes}
use Rattle.rt_text.specs.declared.forms.Form.{Form}
use Rattle.rt_text.specs.declared.forms.Form.TheVariants as form
use Rattle.rt_text.specs.declared.forms.OperationForm.{OperationForm}
use Rattle.rt_text.specs.declared.forms.OperationForm.TheVariants.{Upper, LoadNumber, Immediate, Shift, Register, Unary, Load, Store}
use Rattle.rt_text.specs.declared.forms.TransferForm.{TransferForm}
use Rattle.rt_text.specs.declared.forms.TransferForm.TheVariants.{JumpAndLink, JumpAndLinkRegister, Branch, ZeroBranch, JumpTo, JumpRegister, LoadAddress}
use Rattle.rt_text.specs.declared.forms.DirectiveForm.{DirectiveForm}
use Rattle.rt_text.specs.declared.forms.DirectiveForm.TheVariants.{Section, Symbol, Bytes, Halves, Words, Zero, Align, Text}
use Rattle.rt_text.specs.declared.operations.PlainOp.TheVariants as plain
use Rattle.rt_text.specs.declared.operations.JumpOp.TheVariants as jump
use Rattle.rt_text.specs.declared.operations.JumpRegisterOp.TheVariants as jump_register
use Rattle.rt_text.specs.declared.operands.Operand.{Operand}
use Rattle.rt_text.specs.declared.meaning.Operation.{Operation}
use Rattle.rt_text.specs.declared.meaning.Operation.TheVariants as operation
use Rattle.rt_text.specs.declared.meaning.Transfer.{Transfer}
use Rattle.rt_text.specs.declared.meaning.Transfer.TheVariants as transfer
use Rattle.rt_text.specs.declared.meaning.Directive.{Directive}
use Rattle.rt_text.specs.declared.meaning.Directive.TheVariants as directive
use Rattle.rt_text.specs.declared.meaning.Meaning.{Meaning}
use Rattle.rt_text.specs.declared.meaning.Meaning.TheVariants as meaning

-- the first, or where there is none the second
abbrev pub or_else : {A : Type 0} → Option A → Option A → Option A
or_else (Some x) other = Some x
or_else None other = other

-- no operands
abbrev pub none : {A : Type 0} → A → List Operand → Option A
none x [] = Some x
none x (o ∷ os) = None

-- the operands of an operation on registers, numbers and memory
abbrev pub operation_of : OperationForm → List Operand → Option Operation
operation_of (Upper op) os = option_map (λ x. operation.Upper op x.0 x.1) (two register number_in os)
operation_of LoadNumber os = option_map (λ x. operation.LoadNumber x.0 x.1) (two register number_in os)
operation_of (Immediate op) os = option_map (λ x. operation.Immediate op x.0 x.1 x.2) (three register register number_in os)
operation_of (Shift op) os = option_map (λ x. operation.Shift op x.0 x.1 x.2) (three register register number_in os)
operation_of (Register op) os = option_map (λ x. operation.Register op x.0 x.1 x.2) (three register register register os)
operation_of (Unary op) os = option_map (λ x. operation.Unary op x.0 x.1) (two register register os)
operation_of (Load op) os = option_map (λ x. operation.Load op x.0 x.1) (two register memory_in os)
operation_of (Store op) os = option_map (λ x. operation.Store op x.0 x.1) (two register memory_in os)

-- `jal r,t` or `jal t`
abbrev pub jump_and_link : List Operand → Option Transfer
jump_and_link os =
    or_else (option_map (λ x. transfer.JumpAndLink x.0 x.1) (two register target_in os))
    (option_map (λ t. transfer.JumpTo jump.Jal t) (one target_in os))

-- `jalr r,m`, `jalr r,r,n`, `jalr r,r` for `jalr r,r,0`, or `jalr r`
abbrev pub jump_and_link_register : List Operand → Option Transfer
jump_and_link_register os =
    or_else (option_map (λ x. transfer.JumpAndLinkRegister x.0 x.1) (two register memory_in os))
    (or_else (option_map (λ x. transfer.JumpAndLinkRegister x.0 (record { offset = x.2; base = x.1 })) (three register register number_in os))
    (or_else (option_map (λ x. transfer.JumpAndLinkRegister x.0 (record { offset = pos 0; base = x.1 })) (two register register os))
    (option_map (λ r. transfer.JumpRegister jump_register.Jalr r) (one register os))))

-- the operands of a jump, a branch or an address, in the forms that it has
abbrev pub transfer_of : TransferForm → List Operand → Option Transfer
transfer_of JumpAndLink os = jump_and_link os
transfer_of JumpAndLinkRegister os = jump_and_link_register os
transfer_of (Branch op) os = option_map (λ x. transfer.Branch op x.0 x.1 x.2) (three register register target_in os)
transfer_of (ZeroBranch op) os = option_map (λ x. transfer.ZeroBranch op x.0 x.1) (two register target_in os)
transfer_of (JumpTo op) os = option_map (λ t. transfer.JumpTo op t) (one target_in os)
transfer_of JumpRegister os = option_map (λ r. transfer.JumpRegister jump_register.Jr r) (one register os)
transfer_of LoadAddress os = option_map (λ x. transfer.LoadAddress x.0 x.1) (two register target_in os)

-- f of each operand, at least one
abbrev pub some_of : {A : Type 0} → (Operand → Option A) → List Operand → Option (List A)
some_of f [] = None
some_of f (o ∷ os) = each f (o ∷ os)

-- a directive's operands
abbrev pub directive_of : DirectiveForm → List Operand → Option Directive
directive_of Section os = none directive.Nothing os
directive_of Symbol os = option_map (λ w. directive.Nothing) (one word_in os)
directive_of Bytes os = option_map directive.Bytes (some_of number_in os)
directive_of Halves os = option_map directive.Halves (some_of number_in os)
directive_of Words os = option_map directive.Words (some_of target_in os)
directive_of Zero os = option_map directive.Zero (one number_in os)
directive_of Align os = option_map directive.Align (one number_in os)
directive_of (Text op) os = option_map (λ s. directive.Text op (string_bytes s.text)) (one text_in os)

-- `fence`, or `fence set,set`
abbrev pub fence : List Operand → Option Meaning
fence os =
    or_else (none (meaning.Plain plain.Fence) os)
    (option_map (λ x. meaning.Fence x.0 x.1) (two fence_set fence_set os))

-- what the operands mean in this form; none where they don't fit it
abbrev pub meaning_of : Form → List Operand → Option Meaning
meaning_of (form.Operation f) os = option_map meaning.Operation (operation_of f os)
meaning_of (form.Transfer f) os = option_map meaning.Transfer (transfer_of f os)
meaning_of form.Fence os = fence os
meaning_of (form.Plain op) os = none (meaning.Plain op) os
meaning_of (form.Directive f) os = option_map meaning.Directive (directive_of f os)
