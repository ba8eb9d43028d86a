use Rattle.rt_image.proofs.Systems.{one_set}
use Rattle.rt_image.proofs.laws.one_system.Goals as goal

pub returns : goal.returns
returns c = one_set
