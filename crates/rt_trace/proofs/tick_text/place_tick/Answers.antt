use Rattle.rt_trace.proofs.Common.{arith, length-decimal-le}
use Rattle.rt_trace.proofs.tick_text.place_tick.Goals as goal

pub returns-clause-short : goal.returns-clause-short
returns-clause-short c = omega (arith, c.place.ensures.moved, length-decimal-le 13 c.args.tick (omega arith) (omega (arith, c.requires.limit)) (omega (arith, c.requires.limit)))
