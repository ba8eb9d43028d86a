use Rattle.rt_remote.proofs.Common.{◌≤◌, sym, ap, subst, ◌∙◌, refl, arith, WalkState}
use Rattle.rt_walk.specs.Position.{stand_of}
use Rattle.rt_walk.specs.Walking.{lowest}
use Rattle.rt_remote.proofs.stops.OneBackLemmas.{stays-watched, goes-plain, stays-begun}
use Rattle.rt_remote.proofs.stops.one_back.look_back.Goals as goal

pub returns-in-Some-clause-back : goal.returns-in-Some-clause-back
returns-in-Some-clause-back g c = λ set is.
    let old = c.args.walk.now in
    stays-watched c.args.way (stand_of old.first) set old.first.machine.tick old.shown.machine.tick c.in_ok-behind.field-0 _ c.in-Met.behind c.last_met.new.self.shown.machine.tick c.in-Met.watched c.in-Some.watched c.in-Met.is
    (sym c.told_watch.ensures ∙ c.in-Some.is) (ap (λ (w : WalkState). w.shown.machine.tick) c.last_met.ensures.walk) (c.in_ok-behind.ensures.looks set is)

pub returns-in_ok-back_to-in-None-clause-back : goal.returns-in_ok-back_to-in-None-clause-back
returns-in_ok-back_to-in-None-clause-back g c = λ set is.
    let old = c.args.walk.now in
    goes-plain c.args.way (stand_of old.first) set old.first.machine.tick old.shown.machine.tick c.in_ok-behind.field-0 _ c.in-Met.behind c.saturating_sub.result c.back_to.new.self.shown.machine.tick c.in-Met.watched c.in-Met.is
    (sym c.told_watch.ensures ∙ c.in-None.is) (omega (arith, c.saturating_sub.ensures)) (c.in_ok-back_to-in-None.ensures.tick ∙ ap (λ (w : WalkState). lowest c.saturating_sub.result w) c.last_met.ensures.walk)
    (c.in_ok-behind.ensures.looks set is)

pub returns-in-Unmet : goal.returns-in-Unmet
returns-in-Unmet g c =
    let same = c.last_met.ensures.walk in
    let begun = subst (λ (w : WalkState). w.first.machine.tick ≤ w.shown.machine.tick) same c.last_met.ensures.reached.later in
    record {
      walk = record { first = ap (λ (w : WalkState). w.first) same; reached = c.last_met.ensures.reached };
      back = λ set is.
          let old = c.args.walk.now in
          stays-begun c.args.way (stand_of old.first) set old.first.machine.tick old.shown.machine.tick c.in_ok-behind.field-0 _ c.last_met.new.self.shown.machine.tick begun c.in-Unmet.is refl
          (ap (λ (w : WalkState). w.shown.machine.tick) same) (c.in_ok-behind.ensures.looks set is);
      memory = tt;
    }
