use Rattle.rt_effects.proofs.laws.Moves.{stores-source}
use Rattle.rt_effects.proofs.laws.laws.sources_are_stored.Goals as goal

pub returns : goal.returns
returns c = stores-source
