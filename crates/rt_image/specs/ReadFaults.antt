-- Why reading gave no value.
use Rattle.rt_words.specs.declared.or_memory.OrMemory.{OrMemory}
use Rattle.rt_words.specs.declared.or_memory.OrMemory.TheVariants.{Memory, Fault}
use Rattle.rt_image.specs.declared.fault.ImageFault.{ImageFault}
use Rattle.rt_image.specs.declared.fault.ImageFault.TheVariants.{BadField}
use Rattle.rt_image.specs.declared.fault.WriteFault.{WriteFault}
use Rattle.rt_image.specs.declared.fault.WriteFault.TheVariants as write

abbrev pub ReadFault : Type 0
ReadFault = OrMemory ImageFault

-- why a value wasn't written, for one who reads and writes
abbrev pub fault_of_write : WriteFault → ReadFault
fault_of_write write.NoMemory = Memory
fault_of_write write.BadField = Fault BadField
