use Rattle.rt_asm.proofs.Common.{◌≡◌, ◌+◌, ◌++◌, drop, base}
use Rattle.rt_asm.specs.Flaws.{operand_flaws}
use Rattle.rt_asm.proofs.FaultLemmas.{LaidFrom}
use Rattle.rt_asm.proofs.faulty_lines.operand_flaws.Given as goal

-- the flaws so far, and those of the lines that are left, are those of the source
abbrev pub invariant-loop-line : goal.invariant-loop-line
invariant-loop-line l = record {
  counted : l.number ≡ l.line-index + 1;
  laid : LaidFrom l.lines l.plan l.line-index l.place;
  same :
      l.flaws.items ++ operand_flaws l.plan.labels l.number l.place (drop l.line-index l.lines)
      ≡ operand_flaws l.plan.labels 1 base l.lines;
}
