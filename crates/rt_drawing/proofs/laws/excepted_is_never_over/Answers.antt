use Rattle.rt_drawing.proofs.ExceptLaws.{runs-plain, waits-plain}
use Rattle.rt_drawing.proofs.laws.excepted_is_never_over.Goals as goal

pub returns-clause-runs : goal.returns-clause-runs
returns-clause-runs c = runs-plain

pub returns-clause-waits : goal.returns-clause-waits
returns-clause-waits c = waits-plain
