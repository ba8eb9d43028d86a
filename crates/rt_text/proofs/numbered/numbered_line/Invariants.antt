use Rattle.rt_text.proofs.Common.{length}
use Rattle.rt_text.proofs.NumberedLemmas.{Left}
use Rattle.rt_text.proofs.numbered.numbered_line.Given as goal

abbrev pub invariant-loop-rest : goal.invariant-loop-rest
invariant-loop-rest l = Left l.text l.number l.rest l.left

abbrev pub decreases-loop-rest : goal.decreases-loop-rest
decreases-loop-rest l = length l.rest
