use Rattle.rt_waves.proofs.laws.ReaderLaws.{reader-sees, block-reports}
use Rattle.rt_waves.proofs.laws.laws.readers_see_the_waves.Goals as goal

pub returns-clause-values : goal.returns-clause-values
returns-clause-values c = reader-sees

pub returns-clause-text : goal.returns-clause-text
returns-clause-text c = block-reports
