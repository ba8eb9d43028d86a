use Rattle.rt_laws.proofs.Common.{arith}
use Rattle.rt_laws.proofs.breach.Rooms.{none-spent}
use Rattle.rt_laws.proofs.breach.breaching.passed_tick.Goals as goal

pub loop-beyond-init : goal.loop-beyond-init
loop-beyond-init c = record {
  ordered = omega arith;
  within = omega arith;
  spent = omega (arith, none-spent c.args.params.now c.requires.granted);
}
