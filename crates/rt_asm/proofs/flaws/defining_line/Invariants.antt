use Rattle.rt_asm.proofs.Common.{◌≡◌, ◌+◌, drop}
use Rattle.rt_asm.specs.DefiningLine.{defining_line}
use Rattle.rt_asm.proofs.flaws.defining_line.Given as goal

abbrev pub invariant-loop-line : goal.invariant-loop-line
invariant-loop-line l = record {
  counted : l.number ≡ l.line-index + 1;
  same : defining_line 1 l.lines l.name ≡ defining_line l.number (drop l.line-index l.lines) l.name;
}
