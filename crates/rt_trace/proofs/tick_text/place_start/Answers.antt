use Rattle.rt_trace.proofs.Common.{arith, length-decimal-le}
use Rattle.rt_trace.proofs.tick_text.place_start.Goals as goal

pub returns-then-has-clause-short : goal.returns-then-has-clause-short
returns-then-has-clause-short c =
    omega (arith, c.place.ensures.moved, length-decimal-le 20 c.args.tick (omega arith) (omega (arith, c.ranges.tick.fits)) (omega (arith, c.ranges.tick.fits)))
