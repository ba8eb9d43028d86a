use Rattle.rt_certify.proofs.Steps.{stands-first}
use Rattle.rt_certify.proofs.trial.Trial.begin.Goals as goal

pub returns-clause-stands : goal.returns-clause-stands
returns-clause-stands c = λ o. rw c.from.ensures (stands-first o c.args.start c.args.limits)
