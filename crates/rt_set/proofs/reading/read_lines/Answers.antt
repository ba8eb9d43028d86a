use Rattle.std.proofs.Common.{arith}
use Rattle.rt_set.specs.Working.Drafts.{draft_of}
use Rattle.rt_set.specs.SetLines.{set_of}
use Rattle.rt_set.proofs.LineLemmas.{next_line}
use Rattle.rt_set.proofs.reading.read_lines.Goals as goal

pub loop-rest-preserved : goal.loop-rest-preserved
loop-rest-preserved c =
    let taken = rw c.if-not-branch.false at c.in_ok-take_line.ensures in
    record {
      counted = omega (arith, c.cut_line.ensures.shorter);
      same = next_line (set_of c.args.text.now) c.loop-rest.number (draft_of c.loop-rest.draft) (draft_of c.take_line.new.draft) c.loop-rest.rest.now c.cut_line.result.0.now c.cut_line.result.1.now c.cut_line.ensures.first taken c.loop-rest.invariant.same;
    }
