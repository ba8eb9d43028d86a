-- Why a source isn't assembled.
use Rattle.rt_words.specs.declared.or_memory.OrMemory.{OrMemory}
use Rattle.rt_asm.specs.declared.fault.AsmFault.{AsmFault}

abbrev pub AssembleFault : Type 0
AssembleFault = OrMemory AsmFault
