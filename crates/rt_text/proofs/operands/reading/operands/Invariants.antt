use Rattle.rt_text.proofs.Common.{◌≡◌, ◌++◌, option_map, each, operand}
use Rattle.rt_text.specs.Operands.{operands}
use Rattle.rt_text.proofs.OperandLemmas.{parts_left, steps_left}
use Rattle.rt_text.proofs.operands.reading.operands.Given as goal

-- what was found goes before the operands of what is left
abbrev pub invariant-loop-next : goal.invariant-loop-next
invariant-loop-next l = option_map (λ xs. l.found.items ++ xs) (each operand (parts_left l.next)) ≡ operands l.tokens

abbrev pub decreases-loop-next : goal.decreases-loop-next
decreases-loop-next l = steps_left l.next
