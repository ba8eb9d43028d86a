use Rattle.rt_asm.proofs.Common.{◌≡◌, drop, with_labels}
use Rattle.rt_asm.proofs.layout.add_labels.Given as goal

-- the names that are left, added to the labels so far
abbrev pub invariant-loop-name : goal.invariant-loop-name
invariant-loop-name l = with_labels l.place l.initial.labels l.names ≡ with_labels l.place l.labels (drop l.name-index l.names)
