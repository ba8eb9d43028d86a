use Rattle.rt_remote.proofs.Common.{◌≡◌, refl, sym, ap, subst, ◌∙◌, MachineState, state_at, PositionState, WalkState}
use Rattle.rt_walk.specs.Position.{stand_of}
use Rattle.rt_walk.specs.Walking.{lowest}
use Rattle.rt_remote.specs.stops.Working.Left.{left_told}
use Rattle.rt_remote.proofs.stops.BackwardLemmas.{goes-back-by}
use Rattle.rt_remote.proofs.stops.backward.go_back.Goals as goal

pub returns-clause-back : goal.returns-clause-back
returns-clause-back g c = λ set is.
    let old = c.args.walk.now in
    let new = c.back_to.new.self in
    let same = c.last_met.ensures.walk in
    let now-is = c.now-now.ensures.value ∙ ap (λ (p : PositionState). p.machine.tick) c.shown.ensures.shown in
    let reached = c.in_ok-back_to.ensures.walk in
    let first-is = reached.first ∙ ap (λ (w : WalkState). w.first) same in
    let stands = reached.reached.stands set (subst (λ (p : PositionState). p.machine ≡ state_at set p.machine.tick) (sym first-is) is) in
    let tick-is = c.in_ok-back_to.ensures.tick ∙ ap (λ (w : WalkState). lowest c.last_tick.result w) same in
    let machine-is = c.machine.ensures ∙ ap (λ (p : PositionState). p.machine) c.shown-2.ensures.shown in
    goes-back-by c.args.way (stand_of old.first) set old.first.machine.tick old.shown.machine.tick c.args.way c.now-now.result c.low_tick-low.result c.last_tick.result new.shown.machine c.in_ok-last.last _ c.left_told.result
    c.shown.ensures.reached.later refl now-is c.low_tick-low.ensures c.last_tick.ensures stands tick-is
    (c.left_told.ensures ∙ ap (λ (m : MachineState). left_told c.args.way c.now-now.result m c.in_ok-last.last) machine-is) (c.in_ok-last.ensures.looks set is)
