use Rattle.rt_walk.proofs.Common.{arith}
use Rattle.rt_walk.proofs.GoingLemmas.{below-min}
use Rattle.rt_walk.proofs.position.Position.run.Goals as goal

pub loop-entry-preserved : goal.loop-entry-preserved
loop-entry-preserved g c =
    let i = c.loop-entry.invariant in
    let goes = c.in-Some.ensures.goes in
    let small = below-min _ _ _ goes.within in
    record {
      left = omega (arith, i.left);
      clock = omega (arith, i.left, i.clock, goes.end, small, c.ticks-left.ensures);
      reached = λ first r. c.advance.ensures.reached first (i.reached first r);
    }

pub returns-clause-reached : goal.returns-clause-reached
returns-clause-reached g c = λ first r. c.advance.ensures.reached first (c.loop-entry.invariant.reached first r)
