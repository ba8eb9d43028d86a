use Rattle.rt_walk.proofs.Common.{subst, refl, WalkState}
use Rattle.rt_walk.specs.Walking.{IsWalk}
use Rattle.rt_walk.proofs.walk.Walk.seek.Goals as goal

pub invariant_of-self : goal.invariant_of-self
invariant_of-self g c =
    let i = c.self.invariant in
    let first = c.self.inside.first in
    (i.0, c.seek.ensures.reached first i.1, c.seek.ensures.kept first i.1 i.2, c.seek.ensures.later, c.seek.ensures.spread first.machine.tick i.4, i.5)

pub returns-clause-walk : goal.returns-clause-walk
returns-clause-walk g c =
    subst (λ (old : WalkState). IsWalk old (record { first = c.self.inside.first; shown = c.seek.new.place })) c.self.view_is
    (record { first = refl; reached = c.seek.ensures.reached c.self.inside.first c.self.invariant.1 })
