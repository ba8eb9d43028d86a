use Rattle.rt_text.proofs.Common.{◌≡◌}
use Rattle.rt_text.specs.Misfits.{from_each, misfit_from}
use Rattle.rt_text.proofs.MisfitLemmas.{rests_left}
use Rattle.rt_text.proofs.OperandLemmas.{steps_left}
use Rattle.rt_text.proofs.refused_words.misfits.misfit_from.Given as goal

-- the kinds that are left, of the operands that are left, have the first misfit of all
abbrev pub invariant-loop-left : goal.invariant-loop-left
invariant-loop-left l = misfit_from l.shape (from_each l.tokens) ≡ misfit_from l.kinds (rests_left l.left)

abbrev pub decreases-loop-left : goal.decreases-loop-left
decreases-loop-left l = steps_left l.left
