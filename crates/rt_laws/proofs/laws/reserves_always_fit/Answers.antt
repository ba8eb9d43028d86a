use Rattle.rt_laws.proofs.Fitting.{reserves_fit}
use Rattle.rt_laws.proofs.laws.reserves_always_fit.Goals as goal

pub returns : goal.returns
returns c = reserves_fit
