use Rattle.rt_laws.proofs.Fitting.{all_fit}
use Rattle.rt_laws.proofs.laws.always_fit.Goals as goal

pub returns : goal.returns
returns c = all_fit
