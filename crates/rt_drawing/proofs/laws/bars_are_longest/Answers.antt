use Rattle.rt_drawing.proofs.BarLaws.{ticks-stay, each-some, gaps-between, shown-own, shown-rise}
use Rattle.rt_drawing.proofs.laws.bars_are_longest.Goals as goal

pub returns-clause-ticks : goal.returns-clause-ticks
returns-clause-ticks c = ticks-stay

pub returns-clause-some : goal.returns-clause-some
returns-clause-some c = each-some

pub returns-clause-apart : goal.returns-clause-apart
returns-clause-apart c = gaps-between

pub returns-clause-own : goal.returns-clause-own
returns-clause-own c = shown-own

pub returns-clause-rising : goal.returns-clause-rising
returns-clause-rising c = shown-rise
