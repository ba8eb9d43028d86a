use Rattle.rt_text.proofs.LineLemmas.{line_says, says_read}
use Rattle.rt_text.proofs.laws.lines_are_those_of_the_grammar.Goals as goal

pub returns : goal.returns
returns c = λ place bytes line. (line_says place bytes line, says_read place bytes line)
