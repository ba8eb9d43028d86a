use Rattle.rt_certify.proofs.Common.{[], suc, refl, sym, subst, arith, Sleep, attempted, progress, Stands}
use Rattle.rt_certify.specs.declared.certificate.Reason.TheVariants.{TooSoon}
use Rattle.rt_certify.proofs.Told.{quiet}
use Rattle.rt_certify.proofs.Steps.{stands-slept}
use Rattle.rt_certify.proofs.Results.{refused-by}
use Rattle.rt_certify.proofs.trial.Trial.sleep.Goals as goal

pub returns-in-Some-clause-stands : goal.returns-in-Some-clause-stands
returns-in-Some-clause-stands c = λ o start k x y st told.
    let l = c.args.self.now.limits in
    let p = progress c.args.self.now in
    let far = c.in-Some.ensures.far in
    let heard = quiet x y (Sleep c.args.tick) (λ answered. answered) told in
    let next = stands-slept o start l k x p c.args.tick c.in-Some.distance st heard.0 (omega arith)
    (c.periods_of-periods.result, c.periods_of-periods.ensures.0, omega (arith, far.0, far.1)) far.1 in
    subst (λ z. Stands o start c.args.self.now.limits (suc k) z (progress c.release_next.new.self)) heard.1
    (subst (Stands o start c.args.self.now.limits (suc k) (attempted [] x)) (sym c.release_next.ensures.slept) next)

pub returns-in-None-clause-stops : goal.returns-in-None-clause-stops
returns-in-None-clause-stops c = λ o start k x y st told at.
    let p = progress c.args.self.now in
    let heard = quiet x y (Sleep c.args.tick) (λ answered. answered) told in
    rw c.refused.ensures
    (refused-by o start c.args.self.now.limits k x p c.args.pc (TooSoon p.release c.args.tick c.reported_periods.result) st at
    (c.requires.some, refl, heard.0, (c.periods_of-periods.result, c.periods_of-periods.ensures, c.in-None.ensures.soon, c.reported_periods.ensures)))
