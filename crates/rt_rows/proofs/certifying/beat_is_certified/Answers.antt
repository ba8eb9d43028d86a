use Rattle.rt_rows.proofs.BeatAlone.{certified, not_with_less, not_with_longer, not_later}
use Rattle.rt_rows.proofs.certifying.beat_is_certified.Goals as goal

pub returns-clause-certified : goal.returns-clause-certified
returns-clause-certified c = certified

pub returns-clause-budget : goal.returns-clause-budget
returns-clause-budget c = not_with_less

pub returns-clause-period : goal.returns-clause-period
returns-clause-period c = not_with_longer

pub returns-clause-start : goal.returns-clause-start
returns-clause-start c = not_later
