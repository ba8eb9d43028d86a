use Rattle.rt_walk.proofs.Common.{arith}
use Rattle.rt_walk.proofs.checkpoints.Checkpoints.run.Goals as goal

pub loop-left-preserved : goal.loop-left-preserved
loop-left-preserved g c =
    let i = c.loop-left.invariant in
    record {
      left = omega (arith, i.left);
      clock = omega (arith, i.left, i.clock, c.run.ensures.clock, c.min-part.ensures, c.loop-left-test.true);
      later = c.visit.ensures.later (omega (arith, i.left, i.later, c.run.ensures.clock, c.min-part.ensures, c.loop-left-test.true));
      spread = λ start before. c.visit.ensures.kept start (i.spread start before);
      reached = λ first r. c.run.ensures.reached first (i.reached first r);
      kept = λ first r all. c.visit.ensures.reached first (c.run.ensures.reached first (i.reached first r)) (i.kept first r all);
    }
