use Rattle.rt_asm.proofs.Common.{arith, ints, common_steps}
use Rattle.std.proofs.lemmas.Int.{to_z-of_z}
use Rattle.rt_asm.proofs.data.push_bytes.Goals as goal

pub loop-number-preserved : goal.loop-number-preserved
loop-number-preserved c = grind (arith, ints, to_z-of_z, common_steps)
