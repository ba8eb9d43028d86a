use Rattle.rt_asm.proofs.Common.{◌≡◌, take, map}
use Rattle.rt_asm.specs.declared.fault.LineFault.TheVariants.{Text}
use Rattle.rt_asm.proofs.faulty_lines.of_text.Given as goal

abbrev pub invariant-loop-fault : goal.invariant-loop-fault
invariant-loop-fault l = l.told.items ≡ map Text (take l.fault-index l.faults)
