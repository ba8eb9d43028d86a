use Rattle.std.specs.Prelude.{List, ℕ, drop}
use Rattle.std.specs.Option.{option_map}
use Rattle.std.proofs.Common.{Bor}
use Rattle.rt_perform.specs.declared.program.ProgramFault.{ProgramFault}
use Rattle.rt_perform.specs.Laid.{SpellsObject, AreLaid, AreUnlaid}
use Rattle.rt_perform.proofs.laying.lay_files.Given as goal

-- what comes of the files that are left comes of all
abbrev pub invariant-loop-file : goal.invariant-loop-file
invariant-loop-file g l = record {
  spelled : SpellsObject l.laid.items;
  laid : (new : List ℕ) → AreLaid (g.D.Desk.files l.desk) l.made (option_map (λ (elf : Bor (List ℕ)). elf.now) l.elf) (drop l.file-index l.files) l.laid.items new
      → AreLaid (g.D.Desk.files l.desk) l.made (option_map (λ (elf : Bor (List ℕ)). elf.now) l.elf) l.files l.fn.object.items new;
  unlaid : (fault : ProgramFault) → AreUnlaid (g.D.Desk.files l.desk) l.made (option_map (λ (elf : Bor (List ℕ)). elf.now) l.elf) (drop l.file-index l.files) l.laid.items fault
      → AreUnlaid (g.D.Desk.files l.desk) l.made (option_map (λ (elf : Bor (List ℕ)). elf.now) l.elf) l.files l.fn.object.items fault;
}
