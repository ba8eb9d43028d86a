use Rattle.rt_rows.proofs.Kept.{within_two, not_later}
use Rattle.rt_rows.proofs.certifying.what_is_on_time.Goals as goal

pub returns-clause-within : goal.returns-clause-within
returns-clause-within c = within_two

pub returns-clause-later : goal.returns-clause-later
returns-clause-later c = not_later
