use Rattle.rt_walk.proofs.Common.{arith}
use Rattle.rt_walk.proofs.trail.Trail.lead.Goals as goal

pub nearer-preserved : goal.nearer-preserved
nearer-preserved g c =
    let i = c.nearer.invariant in
    record {
      early = omega (arith, i.early, c.run.ensures.clock, c.now-in-nearer-2.ensures.value);
      reached = λ first r. c.run.ensures.reached first (i.reached first r);
      left = λ first r all. c.leave.ensures first (c.run.ensures.reached first (i.reached first r)) (i.left first r all);
    }

pub returns-clause-reached : goal.returns-clause-reached
returns-clause-reached g c = λ first r. c.run-2.ensures.reached first (c.nearer.invariant.reached first r)

pub returns-clause-left : goal.returns-clause-left
returns-clause-left g c = λ first r all. c.nearer.invariant.left first r (c.come_from.ensures first all)
