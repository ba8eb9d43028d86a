use Rattle.rt_chart.proofs.Common.{◌/◌, arith, length-decimal-le}
use Rattle.rt_chart.proofs.digits.Digits.change_to.Goals as goal

pub write_digits-self-inside-requires : goal.write_digits-self-inside-requires
write_digits-self-inside-requires c = (length-decimal-le 20 (c.args.number / 100) (omega arith) (omega arith) (omega arith), omega (arith, c.self.invariant.size))
