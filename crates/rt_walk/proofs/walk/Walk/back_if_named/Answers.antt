use Rattle.rt_walk.proofs.Common.{subst, sym, ap, ◌∙◌, arith, WalkState, IsReached}
use Rattle.rt_walk.proofs.walk.Walk.back_if_named.Goals as goal

pub invariant_of-self : goal.invariant_of-self
invariant_of-self g c =
    let i = c.self-2.invariant in
    let first = c.self-2.inside.first in
    let same = c.self-2.view_is ∙ c.in_ok-position.ensures.walk in
    let begun = subst (λ (old : WalkState). IsReached old.first c.in_ok-position.position) (sym same) c.in_ok-position.ensures.reached in
    let here = ap (λ (w : WalkState). w.shown.machine.tick) (same ∙ sym c.self.view_is) in (
      i.0,
      c.lead.ensures.reached first begun,
      i.2,
      omega (arith, c.lead.ensures.clock, c.now-now.ensures.value, here, i.3),
      i.4,
      c.lead.ensures.left first begun i.5,
    )

pub invariant_of-self-else-names : goal.invariant_of-self-else-names
invariant_of-self-else-names g c =
    let i = c.self-2.invariant in
    let first = c.self-2.inside.first in
    let same = c.self-2.view_is ∙ c.in_ok-position.ensures.walk in
    let begun = subst (λ (old : WalkState). IsReached old.first c.in_ok-position.position) (sym same) c.in_ok-position.ensures.reached in
    (i.0, i.1, i.2, i.3, i.4, c.lead.ensures.left first begun i.5)

pub returns-then-names-clause-back : goal.returns-then-names-clause-back
returns-then-names-clause-back g c = λ _.
    let same = c.self-2.view_is ∙ c.in_ok-position.ensures.walk in
    let begun = subst (λ (old : WalkState). IsReached old.first c.in_ok-position.position) (sym same) c.in_ok-position.ensures.reached in
    let first = ap (λ (w : WalkState). w.first.machine.tick) c.self.view_is in
    let shown = ap (λ (w : WalkState). w.shown.machine.tick) c.self.view_is in (
      record {
        walk = record { first = ap (λ (w : WalkState). w.first) same; reached = c.lead.ensures.reached c.self-2.inside.first begun };
        enough = omega (arith, first, shown, c.now-now.ensures.value, c.now-first.ensures, c.if-now-first.false);
        tick = omega (arith, shown, c.lead.ensures.clock, c.now-now.ensures.value);
      },
      c.names.ensures c.if-names.true,
    )
