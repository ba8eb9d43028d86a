use Rattle.rt_rows.proofs.Kept.{with_an_end, with_a_write, with_a_refused_write, not_with_a_yield}
use Rattle.rt_rows.proofs.certifying.what_keeps_the_plan.Goals as goal

pub returns-clause-end : goal.returns-clause-end
returns-clause-end c = with_an_end

pub returns-clause-write : goal.returns-clause-write
returns-clause-write c = with_a_write

pub returns-clause-refused : goal.returns-clause-refused
returns-clause-refused c = with_a_refused_write

pub returns-clause-yielded : goal.returns-clause-yielded
returns-clause-yielded c = not_with_a_yield
