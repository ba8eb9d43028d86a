use Rattle.rt_walk.proofs.Common.{true≢false, sym, arith, ◌∙◌}
use Rattle.rt_walk.proofs.walk.Walk.give_up_but.Goals as goal

pub invariant_of-self : goal.invariant_of-self
invariant_of-self g c =
    let i = c.self.invariant in
    let first = c.self.inside.first in (
      i.0,
      i.1,
      c.give_up_but.ensures.reached first i.2,
      omega (arith, c.give_up_but.ensures.due, i.3),
      λ whole. absurd (true≢false (sym whole ∙ c.give_up_but.ensures.whole)),
      c.give_up_but-2.ensures first i.5,
    )
