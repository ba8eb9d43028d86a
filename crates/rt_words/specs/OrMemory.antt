-- The text of a fault, or of want of memory.
use Rattle.std.specs.Prelude.{ℕ, List, Option, Some, codes}
use Rattle.rt_words.specs.declared.or_memory.OrMemory.{OrMemory}
use Rattle.rt_words.specs.declared.or_memory.OrMemory.TheVariants.{Memory, Fault}

abbrev pub or_memory : {E : Type 0} → (E → Option (List ℕ)) → OrMemory E → Option (List ℕ)
or_memory text Memory = Some (codes "memory")
or_memory text (Fault fault) = text fault
