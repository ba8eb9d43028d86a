use Rattle.rt_isa.proofs.Common.{◌/◌, arith, and_mask}
use Rattle.rt_isa.proofs.Words.{b_back}
use Rattle.rt_isa.proofs.encoding.b_type.Goals as goal

pub returns : goal.returns
returns c =
    b_back c.args.row c.args.left c.args.right c.branch_bits-bits.result _ c.args.offset c.requires (omega arith) (omega arith) c.branch_bits-bits.ensures.bound c.branch_bits-bits.ensures.even c.branch_bits-bits.ensures.value
    (rw (and_mask (c.branch_bits-bits.result / 2048) 1, and_mask (c.branch_bits-bits.result / 2) 4, and_mask (c.branch_bits-bits.result / 32) 6) (omega arith))
