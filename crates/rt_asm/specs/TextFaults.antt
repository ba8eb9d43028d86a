-- The faults of a text that is to be assembled.
use Rattle.rt_text.specs.ParseFaults.{ParseFault}
use Rattle.rt_words.specs.declared.or_memory.OrMemory.TheVariants as parsing
use Rattle.rt_asm.specs.AssembleFaults.{AssembleFault}
use Rattle.rt_asm.specs.declared.fault.AssembleTextFault.{AssembleTextFault}
use Rattle.rt_asm.specs.declared.fault.AssembleTextFault.TheVariants.{Memory, Text, Source}

-- a fault of reading a text
abbrev pub fault_of_text : ParseFault → AssembleTextFault
fault_of_text parsing.Memory = Memory
fault_of_text (parsing.Fault fault) = Text fault

-- a fault of assembling its lines
abbrev pub fault_of_source : AssembleFault → AssembleTextFault
fault_of_source parsing.Memory = Memory
fault_of_source (parsing.Fault fault) = Source fault
