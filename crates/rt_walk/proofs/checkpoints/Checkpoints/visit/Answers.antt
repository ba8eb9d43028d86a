use Rattle.rt_walk.proofs.checkpoints.Checkpoints.visit.Goals as goal

pub returns-then-now-self-clause-reached : goal.returns-then-now-self-clause-reached
returns-then-now-self-clause-reached g c = λ first reached all. c.add.ensures.reached first reached (c.thin.ensures.reached first all)
