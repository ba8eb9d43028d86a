use Rattle.rt_certify.proofs.Common.{progress}
use Rattle.rt_certify.proofs.Steps.{stands-plain}
use Rattle.rt_certify.proofs.trial.Trial.add_plain.Goals as goal

pub returns-clause-stands : goal.returns-clause-stands
returns-clause-stands c = λ o start k x y st plain. stands-plain o start c.args.self.now.limits c.args.n k x y (progress c.args.self.now) st plain c.requires
