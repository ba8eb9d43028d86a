use Rattle.rt_trace.proofs.Common.{◌+◌, ◌-◌, ◌*◌, ◌≤◌, ◌++◌, length, take, drop, codes}
use Rattle.rt_trace.specs.RegsLine.{registers_text}
use Rattle.rt_trace.proofs.regs_line.offer_regs.Given as goal

abbrev pub invariant-loop-number : goal.invariant-loop-number
invariant-loop-number g l = record {
  from_one : 1 ≤ l.number;
  offered : g.O.Out.offers l.fn.out (codes "regs" ++ registers_text 1 (take (l.number - 1) (drop 1 l.x))) l.out;
  short : length (codes "regs" ++ registers_text 1 (take (l.number - 1) (drop 1 l.x))) ≤ 4 + 60 * l.number;
}
