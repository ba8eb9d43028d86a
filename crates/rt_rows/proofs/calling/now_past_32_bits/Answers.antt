use Rattle.rt_rows.proofs.NowPast32Bits.{now_past_32_bits}
use Rattle.rt_rows.proofs.calling.now_past_32_bits.Goals as goal

pub returns : goal.returns
returns c = now_past_32_bits
