-- Faults of the libraries, as those of a program.
use Rattle.rt_image.specs.ReadFaults.{ReadFault}
use Rattle.rt_words.specs.declared.or_memory.OrMemory.TheVariants as read
use Rattle.rt_asm.specs.declared.fault.AssembleTextFault.{AssembleTextFault}
use Rattle.rt_asm.specs.declared.fault.AssembleTextFault.TheVariants as assembling
use Rattle.rt_core.specs.declared.fault.LoadFault.{LoadFault}
use Rattle.rt_core.specs.declared.fault.LoadFault.TheVariants as core
use Rattle.rt_opening.specs.declared.fault.LoadFault.TheVariants as load
use Rattle.rt_opening.specs.declared.fault.SimFault.{SimFault}
use Rattle.rt_opening.specs.declared.fault.SimFault.TheVariants.{Image, Admit, Load, Text, Source, Memory}

-- a fault of reading
abbrev pub sim_fault : ReadFault → SimFault
sim_fault read.Memory = Memory
sim_fault (read.Fault fault) = Image fault

-- a fault of loading
abbrev pub sim_load_fault : LoadFault → SimFault
sim_load_fault core.Memory = Memory
sim_load_fault (core.Admit fault) = Admit fault
sim_load_fault (core.ImageTooBig task) = Load (load.ImageTooBig task)
sim_load_fault (core.BadEntry task) = Load (load.BadEntry task)

-- a fault of assembling a text
abbrev pub sim_source_fault : AssembleTextFault → SimFault
sim_source_fault assembling.Memory = Memory
sim_source_fault (assembling.Text fault) = Text fault
sim_source_fault (assembling.Source fault) = Source fault
