use Rattle.rt_waves.proofs.Common.{arith}
use Rattle.rt_waves.proofs.kept.PcLine.new.Goals as goal

pub returns-clause-sound : goal.returns-clause-sound
returns-clause-sound c =
    let small = c.place_number-len.ensures.small (omega (arith, c.from.ensures)) in
    record {
      few = omega (arith, small);
      text = rw c.from.ensures at c.place_number-len.ensures.text.bytes;
    }
