use Rattle.rt_asm.proofs.Common.{◌≡◌, drop}
use Rattle.rt_asm.specs.Reasons.{first_reason, undefined}
use Rattle.rt_asm.proofs.flaws.first_undefined.Given as goal

abbrev pub invariant-loop-operand : goal.invariant-loop-operand
invariant-loop-operand l = first_reason (undefined l.labels) l.operands ≡ first_reason (undefined l.labels) (drop l.operand-index l.operands)
