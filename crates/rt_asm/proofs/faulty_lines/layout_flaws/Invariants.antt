use Rattle.rt_asm.proofs.Common.{◌≡◌, ◌+◌, ◌++◌, [], drop, base}
use Rattle.rt_asm.specs.Flaws.{layout_flaws}
use Rattle.rt_asm.proofs.faulty_lines.layout_flaws.Given as goal

-- the flaws so far, and those of the lines that are left, are those of the source
abbrev pub invariant-loop-line : goal.invariant-loop-line
invariant-loop-line l = record {
  counted : l.number ≡ l.line-index + 1;
  same :
      l.flaws.items ++ layout_flaws l.number l.plan (drop l.line-index l.lines)
      ≡ layout_flaws 1 (record { place = base; labels = [] }) l.lines;
}
