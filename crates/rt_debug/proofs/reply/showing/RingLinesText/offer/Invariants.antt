use Rattle.std.proofs.Common.{◌*◌, ◌-◌, ◌≤◌, drop}
use Rattle.std.specs.List.{flat_map}
use Rattle.rt_trace.specs.HistoryText.{line}
use Rattle.rt_debug.proofs.reply.ShownLemmas.{Left}
use Rattle.rt_debug.proofs.reply.showing.RingLinesText.offer.Given as goal

abbrev pub invariant-loop-place : goal.invariant-loop-place
invariant-loop-place g l = record {
  from : l.start ≤ l.place;
  so_far : Left g.O.Out.offers l.fn.out (flat_map line (drop l.start l.ring.items)) (flat_map line (drop l.place l.ring.items)) (160 * (l.place - l.start)) l.out;
}
