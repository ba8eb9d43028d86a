use Rattle.rt_remote.proofs.Common.{◌≡◌, ◌≤◌, arith, refl, sym, ap, ◌∙◌, MachineState, PositionState}
use Rattle.rt_words.specs.Limits.{tick_limit}
use Rattle.rt_walk.specs.Position.{stand_of}
use Rattle.rt_walk.proofs.JobLemmas.{machine-at, at-begin}
use Rattle.rt_remote.specs.stops.Working.Ended.{start_told, end_told}
use Rattle.rt_remote.proofs.stops.OnwardLemmas.{start-goes, stays, goes-on-by}
use Rattle.rt_remote.proofs.stops.onward.go_on.Goals as goal

pub returns-in-Some-clause-goes_on : goal.returns-in-Some-clause-goes_on
returns-in-Some-clause-goes_on g c = λ set is.
    let machine-is = c.machine.ensures ∙ ap (λ (p : PositionState). p.machine) c.shown.ensures.shown in
    let start-is = sym (c.start_told.ensures ∙ ap (λ (m : MachineState). start_told c.args.way m) machine-is) in
    stays c.args.way (stand_of c.args.walk.now.shown) set c.args.walk.now.shown.machine c.in-Some.told is (start-is ∙ c.in-Some.is)

pub returns-in-Some-clause-pauses : goal.returns-in-Some-clause-pauses
returns-in-Some-clause-pauses g c = λ was.
    was ∙ sym (start-goes c.args.way c.machine.result.now c.in-Some.told (sym c.start_told.ensures ∙ c.in-Some.is))

pub returns-in-Some-clause-goes : goal.returns-in-Some-clause-goes
returns-in-Some-clause-goes g c = g.P.Pace.stays _

pub returns-clause-goes_on : goal.returns-clause-goes_on
returns-clause-goes_on g c = λ set is.
    let begin = stand_of c.args.walk.now.shown in
    let at = at-begin set begin is in
    let old = c.args.walk.now.shown.machine in
    let new = c.seek-sought.new.walk.shown.machine in
    let machine-is = c.machine.ensures ∙ ap (λ (p : PositionState). p.machine) c.shown.ensures.shown in
    let none = sym (c.start_told.ensures ∙ ap (λ (m : MachineState). start_told c.args.way m) machine-is) ∙ c.in_default.is in
    let start-is : c.now-start.result ≡ old.tick = c.now-start.ensures.value ∙ ap (λ (p : PositionState). p.machine.tick) c.shown-2.ensures.shown in
    let limit : old.tick ≤ tick_limit = omega (arith, start-is, c.now-start.ensures.limit) in
    let new-is = c.machine-2.ensures ∙ ap (λ (p : PositionState). p.machine) c.shown-3.ensures.shown in
    goes-on-by c.args.way begin set old new c.seek-sought.result _ c.args.way c.now-start.result c.end_tick.result c.end_told.result is (machine-at begin set (stand_of c.seek-sought.new.walk.shown) (c.seek-sought.ensures.stands begin set at)) limit none refl start-is c.end_tick.ensures
    (c.end_told.ensures ∙ ap (λ (m : MachineState). end_told c.args.way m c.seek-sought.result) new-is) (c.seek-sought.ensures.seeks begin set at)
