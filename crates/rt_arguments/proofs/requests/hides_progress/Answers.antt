use Rattle.std.proofs.Common.{sym, ◌∙◌, codes}
use Rattle.rt_arguments.proofs.OptionLemmas.{flag-is}
use Rattle.rt_arguments.proofs.requests.hides_progress.Goals as goal

pub returns-in-Some-clause-none : goal.returns-in-Some-clause-none
returns-in-Some-clause-none c = λ is. c.get_flag.ensures.none (sym (flag-is (codes "no-progress") c.args.matches.now c.in-Some.matches.now c.in-Some.ensures.rows) ∙ is)

pub returns-in-Some-clause-yes : goal.returns-in-Some-clause-yes
returns-in-Some-clause-yes c = λ is. c.get_flag.ensures.value (sym (flag-is (codes "no-progress") c.args.matches.now c.in-Some.matches.now c.in-Some.ensures.rows) ∙ is)

pub returns-in-Some-clause-no : goal.returns-in-Some-clause-no
returns-in-Some-clause-no c = λ is. c.get_flag.ensures.other (sym (flag-is (codes "no-progress") c.args.matches.now c.in-Some.matches.now c.in-Some.ensures.rows) ∙ is)
