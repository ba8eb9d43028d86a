use Rattle.rt_asm.proofs.Common.{◌≡◌, ◌+◌, take, drop, All, AreLabelNames, layout_from, layout}
use Rattle.rt_asm.proofs.layout.layout.Given as goal

-- the lines that are left, laid out behind those so far, are the whole source
abbrev pub invariant-loop-line : goal.invariant-loop-line
invariant-loop-line l = record {
  counted : l.number ≡ l.line-index + 1;
  named : All (λ line. AreLabelNames line.labels) (take l.line-index l.lines);
  same : layout l.lines ≡ layout_from l.number l.plan (drop l.line-index l.lines);
}
