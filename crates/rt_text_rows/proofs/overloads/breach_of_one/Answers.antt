use Rattle.rt_text_rows.proofs.Breaches.{one_is_first}
use Rattle.rt_text_rows.proofs.overloads.breach_of_one.Goals as goal

pub returns-clause-first : goal.returns-clause-first
returns-clause-first c = one_is_first
