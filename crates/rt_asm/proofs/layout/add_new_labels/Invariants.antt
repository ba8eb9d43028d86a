use Rattle.rt_asm.proofs.Common.{◌≡◌, drop, Err, if◌then◌else◌, with_labels, DuplicateLabel}
use Rattle.std.specs.Prelude.{is_none}
use Rattle.rt_text.specs.Meaning.{or_else}
use Rattle.rt_asm.specs.AllFaults.{new_labels}
use Rattle.rt_asm.specs.Flaws.{repeated}
use Rattle.rt_asm.proofs.layout.add_new_labels.Given as goal

-- the names that are left, added to the labels so far
abbrev pub invariant-loop-name : goal.invariant-loop-name
invariant-loop-name l = record {
  added : new_labels l.place l.initial.labels l.names ≡ new_labels l.place l.labels (drop l.name-index l.names);
  first : repeated l.place l.initial.labels l.names ≡ or_else l.repeated (repeated l.place l.labels (drop l.name-index l.names));
  are_new :
      with_labels l.place l.initial.labels l.names
      ≡ (if is_none l.repeated then with_labels l.place l.labels (drop l.name-index l.names) else Err DuplicateLabel);
}
