use Rattle.rt_isa.proofs.Words.{i_back}
use Rattle.rt_isa.proofs.encoding.i_type.Goals as goal

pub returns : goal.returns
returns c =
    i_back c.args.row c.args.target c.args.source c.immediate_bits.result _ c.args.value c.requires c.with_upper_bits.ensures.target c.with_upper_bits.ensures.source c.immediate_bits.ensures.bound c.immediate_bits.ensures.value c.with_upper_bits.ensures.sum
