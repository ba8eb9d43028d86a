use Rattle.std.proofs.Common.{refl}
use Rattle.rt_text_rows.specs.Overloads.{half_misses}
use Rattle.rt_text_rows.proofs.Breaches.{half_is_first}
use Rattle.rt_text_rows.proofs.Computing.{computing}
use Rattle.rt_text_rows.proofs.overloads.breach_of_a_half.Goals as goal

pub returns-clause-first : goal.returns-clause-first
returns-clause-first c = half_is_first

pub returns-clause-reason : goal.returns-clause-reason
unfolding computing
returns-clause-reason c = (half_misses, half_is_first, refl)
