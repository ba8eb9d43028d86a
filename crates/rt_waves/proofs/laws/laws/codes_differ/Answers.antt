use Rattle.rt_waves.proofs.laws.CodeLaws.{codes-distinct}
use Rattle.rt_waves.proofs.laws.laws.codes_differ.Goals as goal

pub returns : goal.returns
returns c = codes-distinct
