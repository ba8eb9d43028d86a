use Rattle.rt_drawing.proofs.ApartLaws.{waits-apart}
use Rattle.rt_drawing.proofs.laws.runs_are_no_waits.Goals as goal

pub returns : goal.returns
returns c = waits-apart
