use Rattle.std.proofs.Common.{arith}
use Rattle.rt_points.proofs.AccessLemmas.{accesses_none}
use Rattle.rt_points.proofs.access.may_access.Goals as goal

pub returns-in_default : goal.returns-in_default
returns-in_default c = λ _ x. accesses_none c.args.word x (λ h. omega arith) (λ h. omega arith)
