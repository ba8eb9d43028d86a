use Rattle.rt_isa.proofs.Common.{arith}
use Rattle.rt_isa.proofs.Words.{r_back}
use Rattle.rt_isa.proofs.encoding.r_type.Goals as goal

pub returns : goal.returns
returns c =
    r_back c.args.row c.args.target c.args.left c.args.right _ c.requires (omega arith) (omega arith) (omega arith) (omega arith) (omega arith)
