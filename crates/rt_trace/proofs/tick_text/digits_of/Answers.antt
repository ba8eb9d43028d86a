use Rattle.rt_trace.proofs.Common.{arith, length-decimal-le}
use Rattle.rt_trace.proofs.tick_text.digits_of.Goals as goal

pub returns-clause-few : goal.returns-clause-few
returns-clause-few c =
    omega (arith, c.place_decimal-count.ensures.text.moved, length-decimal-le 16 c.args.number (omega arith) (omega (arith, c.requires)) (omega (arith, c.requires)))
