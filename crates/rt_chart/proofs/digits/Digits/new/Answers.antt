use Rattle.rt_chart.proofs.Common.{◌/◌, arith, length-decimal-le}
use Rattle.rt_chart.proofs.digits.Digits.new.Goals as goal

pub write_digits-start-requires : goal.write_digits-start-requires
write_digits-start-requires c = (length-decimal-le 20 (c.args.number / 100) (omega arith) (omega arith) (omega arith), omega arith)
