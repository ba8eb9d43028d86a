use Rattle.std.specs.Prelude.{◌≡◌, map, drop}
use Rattle.rt_desk.specs.memory.MemoryDesk.{entry_of, files_of}
use Rattle.rt_desk.proofs.memory.desk.MemoryDesk.bytes.Given as goal

abbrev pub invariant-loop-entry : goal.invariant-loop-entry
invariant-loop-entry l = files_of (map entry_of l.entry-items) l.path ≡ files_of (map entry_of (drop l.entry-index l.entry-items)) l.path
