use Rattle.rt_isa.proofs.Common.{◌/◌, arith, and_mask}
use Rattle.rt_isa.proofs.Words.{j_back}
use Rattle.rt_isa.proofs.encoding.j_type.Goals as goal

pub returns : goal.returns
returns c =
    j_back c.args.row c.args.target c.jump_bits-bits.result _ c.args.offset c.requires (omega arith) c.jump_bits-bits.ensures.bound c.jump_bits-bits.ensures.even c.jump_bits-bits.ensures.value
    (rw (and_mask (c.jump_bits-bits.result / 4096) 8, and_mask (c.jump_bits-bits.result / 2048) 1, and_mask (c.jump_bits-bits.result / 2) 10) (omega arith))
