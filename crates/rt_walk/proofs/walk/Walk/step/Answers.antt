use Rattle.rt_walk.proofs.Common.{subst, refl, WalkState}
use Rattle.rt_walk.specs.Walking.{Steps}
use Rattle.rt_walk.proofs.walk.Walk.step.Goals as goal

pub invariant_of-self : goal.invariant_of-self
invariant_of-self g c =
    let i = c.self.invariant in
    let first = c.self.inside.first in
    (i.0, c.run.ensures.reached first i.1, c.run.ensures.kept first i.1 i.2, c.run.ensures.later, c.run.ensures.spread first.machine.tick i.4, i.5)

pub returns : goal.returns
returns g c =
    subst (λ (old : WalkState). Steps old c.args.n (record { first = c.self.inside.first; shown = c.run.new.place })) c.self.view_is
    (record { walk = record { first = refl; reached = c.run.ensures.reached c.self.inside.first c.self.invariant.1 }; tick = c.run.ensures.clock })
