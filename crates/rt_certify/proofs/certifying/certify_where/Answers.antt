use Rattle.rt_certify.proofs.Common.{◌≡◌, refl, ap, sym, subst, ◌∙◌, state_at, MachineState, origin, IsPlacedCertificate, StandsAt}
use Rattle.std.proofs.Common.{IfSome}
use Rattle.rt_history.proofs.Steps.{tick_is}
use Rattle.rt_certify.specs.Refused.{IsRefused}
use Rattle.rt_certify.specs.Working.Trying.{IsStopAt, EndsBy}
use Rattle.rt_certify.proofs.Answered.{if_some}
use Rattle.rt_certify.proofs.Along.{attempts_at, program_at, stands-begun}
use Rattle.rt_certify.proofs.certifying.certify_where.Goals as goal

pub returns-in-Ok-clause-certified : goal.returns-in-Ok-clause-certified
returns-in-Ok-clause-certified g c = λ set s stands only same.
    let u = c.run.new.machine.tick in
    let k = attempts_at set u in
    let zero : c.args.machine.now.tick ≡ 0 = ap (λ (m : MachineState). m.tick) stands ∙ tick_is set 0 in
    let here : c.args.machine.now ≡ state_at set c.args.machine.now.tick = stands ∙ ap (state_at set) (sym zero) in
    let begun : StandsAt set s c.args.limits 0 c.begin-trial.result = stands-begun set s c.args.limits c.begin-trial.result c.args.start same (c.begin-trial.ensures.stands (origin s)) in
    let first : StandsAt set s c.begin-trial.result.limits c.args.machine.now.tick c.begin-trial.result = rw (c.begin-trial.ensures.limits, zero) begun in
    let last : StandsAt set s c.run.new.trial.limits u c.run.new.trial = rw c.run.ensures.limits (c.in-Ok.ensures.stands set s here only first) in
    let is = c.so_far.ensures.is (origin s) s.start k (program_at set u s) last in
    let limits = c.run.ensures.limits ∙ c.begin-trial.ensures.limits in (
      k,
      subst (λ r. IsPlacedCertificate (origin s) r c.args.limits k c.so_far.result) same
          (subst (λ l. IsPlacedCertificate (origin s) s.start l k c.so_far.result) limits is),
      if_some c.so_far.result.certificate.next _ refl,
    )

pub returns-in-Err-Ended-clause-certified : goal.returns-in-Err-Ended-clause-certified
returns-in-Err-Ended-clause-certified g c = λ set s stands only same.
    let told = c.in-Err-Ended.placed in
    let zero : c.args.machine.now.tick ≡ 0 = ap (λ (m : MachineState). m.tick) stands ∙ tick_is set 0 in
    let here : c.args.machine.now ≡ state_at set c.args.machine.now.tick = stands ∙ ap (state_at set) (sym zero) in
    let begun : StandsAt set s c.args.limits 0 c.begin-trial.result = stands-begun set s c.args.limits c.begin-trial.result c.args.start same (c.begin-trial.ensures.stands (origin s)) in
    let first : StandsAt set s c.begin-trial.result.limits c.args.machine.now.tick c.begin-trial.result = rw (c.begin-trial.ensures.limits, zero) begun in
    let stop = subst (IsStopAt set s c.begin-trial.result.limits) c.in-Err-Ended.field-0-is (c.in-Err-Ended.ensures.stops set s here only first) in
    let none = subst (EndsBy c.args.jobs) c.in-Err-Ended.field-0-is c.in-Err-Ended.ensures.ended in
    rw c.in-Err-Ended.placed-is (
      stop.0,
      subst (λ r. IsPlacedCertificate (origin s) r c.args.limits stop.0 c.in-Err-Ended.placed) same
          (subst (λ l. IsPlacedCertificate (origin s) s.start l stop.0 c.in-Err-Ended.placed) c.begin-trial.ensures.limits stop.1),
      subst (λ next. IfSome next (λ w. stop.0 ≡ attempts_at set c.run.new.machine.tick)) (sym none.1) tt,
    )

pub returns-in-Err-Refused-clause-refused : goal.returns-in-Err-Refused-clause-refused
returns-in-Err-Refused-clause-refused g c = λ set s stands only same.
    let zero : c.args.machine.now.tick ≡ 0 = ap (λ (m : MachineState). m.tick) stands ∙ tick_is set 0 in
    let here : c.args.machine.now ≡ state_at set c.args.machine.now.tick = stands ∙ ap (state_at set) (sym zero) in
    let begun : StandsAt set s c.args.limits 0 c.begin-trial.result = stands-begun set s c.args.limits c.begin-trial.result c.args.start same (c.begin-trial.ensures.stands (origin s)) in
    let first : StandsAt set s c.begin-trial.result.limits c.args.machine.now.tick c.begin-trial.result = rw (c.begin-trial.ensures.limits, zero) begun in
    let stop = subst (IsStopAt set s c.begin-trial.result.limits) c.in-Err-Refused.field-0-is (c.in-Err-Refused.ensures.stops set s here only first) in
    rw c.in-Err-Refused.fault-is (
      stop.0,
      subst (λ r. IsRefused (origin s) r c.args.limits stop.0 c.in-Err-Refused.fault) same
          (subst (λ l. IsRefused (origin s) s.start l stop.0 c.in-Err-Refused.fault) c.begin-trial.ensures.limits stop.1),
    )
