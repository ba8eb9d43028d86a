use Rattle.rt_chart.proofs.Common.{arith}
use Rattle.rt_chart.proofs.laws.over_since_a_period_behind_the_release.Goals as goal

pub returns : goal.returns
returns c = λ period s late. omega (arith, late)
