use Rattle.rt_isa.proofs.Common.{arith, and_mask}
use Rattle.rt_isa.proofs.Words.{s_back}
use Rattle.rt_isa.proofs.encoding.s_type.Goals as goal

pub returns : goal.returns
returns c =
    s_back c.args.row c.args.base c.args.source c.immediate_bits-bits.result _ c.args.offset c.requires (omega arith) (omega arith) c.immediate_bits-bits.ensures.bound c.immediate_bits-bits.ensures.value
    (rw (and_mask c.immediate_bits-bits.result 5) (omega arith))
