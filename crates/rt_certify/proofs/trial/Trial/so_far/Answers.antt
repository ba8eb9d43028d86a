use Rattle.rt_certify.proofs.Common.{progress}
use Rattle.rt_certify.proofs.Results.{placed-open}
use Rattle.rt_certify.proofs.trial.Trial.so_far.Goals as goal

pub returns-clause-is : goal.returns-clause-is
returns-clause-is c = λ o start k x st. rw c.certificate.ensures (placed-open o start c.args.self.now.limits k x (progress c.args.self.now) st)
