use Rattle.rt_drawing.proofs.NoMissLaw.{none_missed}
use Rattle.rt_drawing.proofs.laws.no_deadline_is_missed.Goals as goal

pub returns : goal.returns
returns c = none_missed
