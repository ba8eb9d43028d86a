use Rattle.rt_asm.proofs.PartLemmas.{parts_sum, low_fits, high_fits}
use Rattle.rt_asm.proofs.laws.two_parts_make_the_number.Goals as goal

pub returns-clause-sum : goal.returns-clause-sum
returns-clause-sum c = parts_sum

pub returns-clause-low : goal.returns-clause-low
returns-clause-low c = low_fits

pub returns-clause-high : goal.returns-clause-high
returns-clause-high c = high_fits
