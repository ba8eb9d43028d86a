use Rattle.rt_isa.proofs.Common.{arith}
use Rattle.rt_isa.proofs.Words.{shift_back}
use Rattle.rt_isa.proofs.encoding.shift_type.Goals as goal

pub returns : goal.returns
returns c =
    shift_back c.args.row c.args.target c.args.source c.args.amount _ c.requires (omega arith) (omega arith) (omega arith) (omega arith) (omega arith)
