-- The numbers that the operands of a statement may be, and the distances that it may span.
use Rattle.std.specs.Prelude.{Option, Some, None}
use Rattle.rt_text.specs.declared.meaning.Directive.{Directive}
use Rattle.rt_text.specs.declared.meaning.Directive.TheVariants.{Bytes, Halves, Zero, Align}
use Rattle.rt_text.specs.declared.meaning.Meaning.{Meaning}
use Rattle.rt_text.specs.declared.meaning.Meaning.TheVariants as meaning
use Rattle.rt_text.specs.declared.meaning.Operation.{Operation}
use Rattle.rt_text.specs.declared.meaning.Operation.TheVariants.{Upper, Immediate, Shift, Load, Store}
use Rattle.rt_text.specs.declared.meaning.Transfer.{Transfer}
use Rattle.rt_text.specs.declared.meaning.Transfer.TheVariants.{JumpAndLink, JumpAndLinkRegister, Branch, ZeroBranch, JumpTo}
use Rattle.rt_text.specs.declared.operations.JumpOp.{JumpOp}
use Rattle.rt_text.specs.declared.operations.JumpOp.TheVariants.{J, Jal}
use Rattle.rt_asm.specs.Ranges.{immediates, uppers, shifts, branches, jumps, bytes, halves, counts, powers}
use Rattle.rt_asm.specs.declared.ranges.Range.{Range}

-- the numbers that an operand of an operation may be, of a jump to a register, of a directive
abbrev pub operation_range : Operation → Option Range
operation_range (Upper op d n) = Some uppers
operation_range (Immediate op d a n) = Some immediates
operation_range (Shift op d a n) = Some shifts
operation_range (Load op d m) = Some immediates
operation_range (Store op b m) = Some immediates
operation_range _ = None

abbrev pub transfer_range : Transfer → Option Range
transfer_range (JumpAndLinkRegister d m) = Some immediates
transfer_range _ = None

abbrev pub directive_range : Directive → Option Range
directive_range (Bytes ns) = Some bytes
directive_range (Halves ns) = Some halves
directive_range (Zero n) = Some counts
directive_range (Align n) = Some powers
directive_range _ = None

abbrev pub number_range : Meaning → Option Range
number_range (meaning.Operation o) = operation_range o
number_range (meaning.Transfer t) = transfer_range t
number_range (meaning.Directive d) = directive_range d
number_range _ = None

-- the distances that a jump or a branch may span
abbrev pub jump_range : JumpOp → Option Range
jump_range J = Some jumps
jump_range Jal = Some jumps
jump_range _ = None

abbrev pub span_range : Transfer → Option Range
span_range (JumpAndLink d t) = Some jumps
span_range (Branch op a b t) = Some branches
span_range (ZeroBranch op a t) = Some branches
span_range (JumpTo op t) = jump_range op
span_range _ = None
