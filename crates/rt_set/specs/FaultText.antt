-- What is said of a faulty set file, and of a set that isn't packed.
use Rattle.std.specs.Prelude.{ℕ, List, ◌++◌, codes, decimal}
use Rattle.rt_image.specs.FaultText.{image_text}
use Rattle.rt_set.specs.declared.fault.SetFault.{SetFault}
use Rattle.rt_set.specs.declared.fault.SetFault.TheVariants as sets
use Rattle.rt_image.specs.ReadFaults.{ReadFault}
use Rattle.rt_words.specs.declared.or_memory.OrMemory.TheVariants as packs

abbrev pub set_text : SetFault → List ℕ
set_text sets.Memory = codes "memory"
set_text (sets.Line line) = codes "set file line " ++ decimal line

abbrev pub pack_text : ReadFault → List ℕ
pack_text packs.Memory = codes "memory"
pack_text (packs.Fault fault) = image_text fault
