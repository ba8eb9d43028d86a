use Rattle.rt_set.proofs.PackLaws.{set_fits}
use Rattle.rt_set.proofs.laws.read_sets_fit.Goals as goal

pub returns : goal.returns
returns c = set_fits
