use Rattle.rt_certify.proofs.Common.{◌≡◌, suc, subst, arith, progress, Stands, IsTold}
use Rattle.rt_history.specs.declared.record.AttemptOutcome.TheVariants as outcomes
use Rattle.rt_certify.proofs.Told.{quiet}
use Rattle.rt_certify.proofs.Steps.{stay-quiet, more, stands-on}
use Rattle.rt_certify.proofs.ByStep as by
use Rattle.rt_certify.proofs.Results.{refused-by}
use Rattle.rt_certify.proofs.trial.Trial.add.Goals as goal

pub returns-in-Stays-clause-stands : goal.returns-in-Stays-clause-stands
returns-in-Stays-clause-stands c = λ o start k x y st told.
    let out = c.args.outcome in
    let stay = by.stays c.args.outcome c.step_of.result c.step_of.ensures c.in-Stays.is in
    let heard = quiet x y c.args.outcome (stay-quiet c.args.outcome stay) told in
    subst (λ z. Stands o start c.args.self.now.limits (suc k) z (more (progress c.args.self.now))) heard.1
    (stands-on o start c.args.self.now.limits k x (progress c.args.self.now) out st heard.0 stay (omega arith))

pub returns-in-Sleeps-clause-stands : goal.returns-in-Sleeps-clause-stands
returns-in-Sleeps-clause-stands c =
    let is : c.args.outcome ≡ outcomes.Sleep c.in-Sleeps.tick = by.sleeps c.args.outcome c.step_of.result c.in-Sleeps.tick c.step_of.ensures c.in-Sleeps.is in
    rw is c.sleep.ensures.stands

pub returns-in-Sleeps-clause-stops : goal.returns-in-Sleeps-clause-stops
returns-in-Sleeps-clause-stops c =
    let is : c.args.outcome ≡ outcomes.Sleep c.in-Sleeps.tick = by.sleeps c.args.outcome c.step_of.result c.in-Sleeps.tick c.step_of.ensures c.in-Sleeps.is in
    rw is c.sleep.ensures.stops

pub returns-in-Ends-clause-stops : goal.returns-in-Ends-clause-stops
returns-in-Ends-clause-stops c = λ o start k x y st told at.
    let is : c.args.outcome ≡ outcomes.End = by.ends c.args.outcome c.step_of.result c.step_of.ensures c.in-Ends.is in
    c.end.ensures.is o start k x y st (subst (λ out. IsTold x out y) is told)

pub returns-in-Breaks-clause-stops : goal.returns-in-Breaks-clause-stops
returns-in-Breaks-clause-stops c = λ o start k x y st told at.
    let l = c.args.self.now.limits in
    let p = progress c.args.self.now in
    rw c.refused.ensures
    (refused-by o start l k x p c.args.pc c.in-Breaks.reason st at
    (by.breaks x y p l c.args.outcome c.step_of.result c.in-Breaks.reason c.step_of.ensures c.in-Breaks.is c.requires.some told))
