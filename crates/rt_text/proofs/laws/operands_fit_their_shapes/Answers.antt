use Rattle.rt_text.proofs.ShapeLaws.{operands_fit}
use Rattle.rt_text.proofs.laws.operands_fit_their_shapes.Goals as goal

pub returns : goal.returns
returns c = operands_fit
