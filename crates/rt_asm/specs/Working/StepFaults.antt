-- The fault of a step, at its line.
use Rattle.std.specs.Prelude.{ℕ}
use Rattle.rt_words.specs.declared.or_memory.OrMemory.{OrMemory}
use Rattle.rt_words.specs.declared.or_memory.OrMemory.TheVariants.{Memory, Fault}
use Rattle.rt_asm.specs.declared.fault.AsmKind.{AsmKind}
use Rattle.rt_asm.specs.AssembleFaults.{AssembleFault}
use Rattle.rt_asm.specs.Layout.{fault_at}

abbrev pub StepFault : Type 0
StepFault = OrMemory AsmKind

abbrev pub fault_of_line : ℕ → StepFault → AssembleFault
fault_of_line n Memory = Memory
fault_of_line n (Fault kind) = Fault (fault_at n kind)
