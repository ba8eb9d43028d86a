use Rattle.rt_isa.proofs.Common.{arith}
use Rattle.rt_isa.proofs.Words.{ordering_back}
use Rattle.rt_isa.proofs.encoding.ordering.Goals as goal

pub returns : goal.returns
returns c =
    ordering_back c.args.row c.args.target c.args.source c.args.order _ c.requires c.with_upper_bits.ensures.target c.with_upper_bits.ensures.source (omega arith) (omega arith)
