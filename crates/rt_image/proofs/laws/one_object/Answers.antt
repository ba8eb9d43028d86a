use Rattle.rt_image.proofs.Objects.{one_image}
use Rattle.rt_image.proofs.laws.one_object.Goals as goal

pub returns : goal.returns
returns c = one_image
