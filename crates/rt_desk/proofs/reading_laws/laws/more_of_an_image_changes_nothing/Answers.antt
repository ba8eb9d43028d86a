use Rattle.rt_desk.proofs.Common.{arith}
use Rattle.rt_desk.proofs.reading_laws.Images.{image_law}
use Rattle.rt_desk.proofs.reading_laws.laws.more_of_an_image_changes_nothing.Goals as goal

pub returns : goal.returns
returns c bytes more entry names answer long enough means = image_law bytes more entry names answer (omega (arith, long)) enough means
