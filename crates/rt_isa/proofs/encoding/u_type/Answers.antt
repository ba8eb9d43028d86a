use Rattle.rt_isa.proofs.Common.{arith}
use Rattle.rt_isa.proofs.Words.{u_back}
use Rattle.rt_isa.proofs.encoding.u_type.Goals as goal

pub returns : goal.returns
returns c =
    u_back c.args.row c.args.target c.args.value _ c.requires (omega arith) (omega arith) (omega arith)
