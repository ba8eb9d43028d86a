use Rattle.rt_rows.proofs.BeatAlone.{of_three_periods, not_of_longer, not_of_two_periods}
use Rattle.rt_rows.proofs.certifying.beat_is_certified_in_three_periods.Goals as goal

pub returns-clause-certified : goal.returns-clause-certified
returns-clause-certified c = of_three_periods

pub returns-clause-period : goal.returns-clause-period
returns-clause-period c = not_of_longer

pub returns-clause-periods : goal.returns-clause-periods
returns-clause-periods c = not_of_two_periods
