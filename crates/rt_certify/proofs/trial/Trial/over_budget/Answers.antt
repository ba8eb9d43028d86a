use Rattle.rt_certify.proofs.Common.{◌+◌, refl, arith, progress}
use Rattle.rt_certify.specs.declared.certificate.Reason.TheVariants.{OverBudget}
use Rattle.rt_certify.proofs.Results.{refused-by}
use Rattle.rt_certify.proofs.trial.Trial.over_budget.Goals as goal

pub returns : goal.returns
returns c = λ o start k x st at.
    let p = progress c.args.self.now in
    rw c.refused.ensures
    (refused-by o start c.args.self.now.limits k x p c.args.pc (OverBudget p.release (p.ticks + 1)) st at (omega arith, refl, omega arith))
