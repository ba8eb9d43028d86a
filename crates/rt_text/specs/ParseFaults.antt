-- Why a text isn't read.
use Rattle.rt_words.specs.declared.or_memory.OrMemory.{OrMemory}
use Rattle.rt_text.specs.declared.fault.TextFault.{TextFault}

abbrev pub ParseFault : Type 0
ParseFault = OrMemory TextFault
