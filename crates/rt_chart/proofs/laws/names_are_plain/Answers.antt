use Rattle.rt_chart.proofs.NameLaws.{name-plain}
use Rattle.rt_chart.proofs.laws.names_are_plain.Goals as goal

pub returns : goal.returns
returns c = name-plain
