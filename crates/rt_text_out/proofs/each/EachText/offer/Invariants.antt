use Rattle.std.proofs.Common.{◌≤◌, ◌*◌, length, take}
use Rattle.rt_text_out.specs.Lines.{lines}
use Rattle.rt_text_out.proofs.each.EachText.offer.Given as goal

abbrev pub invariant-loop-number : goal.invariant-loop-number
invariant-loop-number g l = record {
  offered : g.O.Out.offers l.initial.out (lines (g.L.Line.line l.self.by) 0 (take l.number l.self.items.now)) l.out;
  short : length (lines (g.L.Line.line l.self.by) 0 (take l.number l.self.items.now)) ≤ g.L.Line.most * l.number;
}
