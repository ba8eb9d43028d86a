use Rattle.std.proofs.Common.{◌*◌, ◌-◌, ◌≤◌, length}
use Rattle.rt_debug.specs.reply.Shown.{words_shown}
use Rattle.rt_debug.proofs.reply.ShownLemmas.{Left}
use Rattle.rt_debug.proofs.reply.showing.WordLinesText.offer.Given as goal

abbrev pub invariant-loop-rest : goal.invariant-loop-rest
invariant-loop-rest g l = record {
  fewer : length l.rest ≤ length l.self.bytes.now;
  so_far : Left g.O.Out.offers l.fn.out (words_shown l.self.start l.self.bytes.now) (words_shown l.address l.rest) (16 * (length l.self.bytes.now - length l.rest)) l.out;
}

abbrev pub decreases-loop-rest : goal.decreases-loop-rest
decreases-loop-rest g l = length l.rest
