use Rattle.rt_walk.proofs.Common.{subst, sym, ap, arith, ◌∙◌, PositionState, IsReached, tick_of}
use Rattle.std.proofs.lemmas.List.Elements.{All-nil, All-same}
use Rattle.rt_walk.proofs.KeptLemmas.{begun}
use Rattle.rt_walk.specs.Jobs.{first_jobs}
use Rattle.rt_walk.proofs.GoingLemmas.{begins}
use Rattle.rt_walk.proofs.walk.Walk.begin.Goals as goal

pub invariant_of-result : goal.invariant_of-result
invariant_of-result g c =
    let here = subst (λ (p : PositionState). IsReached p p) (sym c.in_ok-shown.ensures.made) (begins c.args.machine (first_jobs c.args.machine)) in
    let reached = IsReached c.in-Ok.first in (
      subst (λ (p : PositionState). IsReached p p) (sym c.in-Ok.ensures) here,
      subst (λ (p : PositionState). IsReached p c.in_ok-shown.shown) (sym c.in-Ok.ensures) here,
      All-same reached _ _ c.new-checkpoints.ensures.none (All-nil reached),
      omega (arith, c.new-checkpoints.ensures.later, c.now.ensures.value),
      λ whole. begun tick_of _ _ _ _ _ _ (c.now.ensures.value ∙ ap (λ (p : PositionState). p.machine.tick) (sym c.in-Ok.ensures)) c.new-checkpoints.ensures.kept,
      All-same reached _ _ c.new-trail.ensures (All-nil reached),
    )
