use Rattle.std.specs.Prelude.{◌≡◌, All, map, take}
use Rattle.std.specs.Option.{option_map}
use Rattle.rt_set.specs.SetFile.{task_entry}
use Rattle.rt_set.specs.Packing.{pack_entry}
use Rattle.rt_perform.specs.Packed.{IsTaskRead}
use Rattle.rt_perform.proofs.packing.read_tasks.Given as goal

abbrev pub invariant-loop-line : goal.invariant-loop-line
invariant-loop-line g l = record {
  lines : map (λ t. t.line) (map pack_entry l.tasks.items) ≡ map task_entry (take l.line-index l.lines);
  read : All (λ t. IsTaskRead (g.D.Desk.files l.desk) (option_map (λ p. p.now) l.made) t.line.path t.file) (map pack_entry l.tasks.items);
}
