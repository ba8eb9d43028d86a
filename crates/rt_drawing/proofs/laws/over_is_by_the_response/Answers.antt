use Rattle.rt_drawing.proofs.OverLaws.{runs-over, waits-over}
use Rattle.rt_drawing.proofs.laws.over_is_by_the_response.Goals as goal

pub returns-clause-runs : goal.returns-clause-runs
returns-clause-runs c = runs-over

pub returns-clause-waits : goal.returns-clause-waits
returns-clause-waits c = waits-over
