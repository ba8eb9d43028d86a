use Rattle.rt_effects.proofs.laws.Stays.{others-stay}
use Rattle.rt_effects.proofs.laws.laws.others_stay.Goals as goal

pub returns : goal.returns
returns c = others-stay
