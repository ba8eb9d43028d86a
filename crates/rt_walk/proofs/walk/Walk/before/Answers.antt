use Rattle.rt_walk.proofs.walk.Walk.before.Goals as goal

pub returns-in-Some-clause-reached : goal.returns-in-Some-clause-reached
returns-in-Some-clause-reached g c = rw (← c.self.view_is) (c.in-Some.ensures.reached c.self.inside.first c.self.invariant.5)
