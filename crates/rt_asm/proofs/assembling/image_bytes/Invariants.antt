use Rattle.rt_asm.proofs.Common.{◌≡◌, ◌+◌}
use Rattle.rt_asm.proofs.ImageLemmas.{Progress}
use Rattle.rt_asm.proofs.assembling.image_bytes.Given as goal

-- the lines so far have their bytes
abbrev pub invariant-loop-line : goal.invariant-loop-line
invariant-loop-line l = record {
  counted : l.number ≡ l.line-index + 1;
  progress : Progress l.lines l.plan l.line-index l.bytes.items;
}
