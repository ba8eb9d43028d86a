use Rattle.rt_walk.proofs.Common.{subst, WalkState, IsReached}
use Rattle.rt_walk.proofs.walk.Walk.shown.Goals as goal

pub returns-clause-reached : goal.returns-clause-reached
returns-clause-reached g c = subst (λ (walk : WalkState). IsReached walk.first walk.shown) c.self.view_is c.self.invariant.1
