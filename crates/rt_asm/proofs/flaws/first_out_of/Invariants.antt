use Rattle.rt_asm.proofs.Common.{◌≡◌, drop}
use Rattle.rt_asm.specs.Reasons.{first_reason, out_of}
use Rattle.rt_asm.proofs.flaws.first_out_of.Given as goal

abbrev pub invariant-loop-operand : goal.invariant-loop-operand
invariant-loop-operand l = first_reason (out_of l.range) l.operands ≡ first_reason (out_of l.range) (drop l.operand-index l.operands)
