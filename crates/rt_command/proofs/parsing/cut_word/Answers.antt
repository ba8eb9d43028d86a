use Rattle.rt_command.proofs.WordLemmas.{words_some, words_none}
use Rattle.rt_command.proofs.parsing.cut_word.Goals as goal

pub returns-in-Some : goal.returns-in-Some
returns-in-Some c = words_some c.args.line.now c.in-Some.word.now c.in-Some.rest.now (c.in-Some.ensures)

pub returns-in-None : goal.returns-in-None
returns-in-None c = words_none c.args.line.now (c.in-None.ensures)
