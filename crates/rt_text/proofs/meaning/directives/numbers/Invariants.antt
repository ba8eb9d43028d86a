use Rattle.rt_text.proofs.Common.{◌≡◌, ◌++◌, drop, option_map, each}
use Rattle.rt_text.specs.Shapes.{number_in}
use Rattle.rt_text.proofs.meaning.directives.numbers.Given as goal

-- what was read goes before what is left
abbrev pub invariant-loop-operand : goal.invariant-loop-operand
invariant-loop-operand l = each number_in l.operands ≡ option_map (λ xs. l.numbers.items ++ xs) (each number_in (drop l.operand-index l.operands))
