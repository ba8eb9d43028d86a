use Rattle.rt_waves.proofs.laws.LineLaws.{line-tells, lines-tell, numbers-binary, signals-reported}
use Rattle.rt_waves.proofs.laws.laws.lines_tell_their_values.Goals as goal

pub returns-clause-line : goal.returns-clause-line
returns-clause-line c = line-tells

pub returns-clause-lines : goal.returns-clause-lines
returns-clause-lines c = lines-tell

pub returns-clause-signals : goal.returns-clause-signals
returns-clause-signals c = signals-reported

pub returns-clause-numbers : goal.returns-clause-numbers
returns-clause-numbers c = numbers-binary
