use Rattle.std.proofs.Common.{◌≡◌, length}
use Rattle.rt_set.specs.SetLines.{is_set}
use Rattle.rt_set.proofs.reading.is_set.Given as goal

-- the lines that are left decide
abbrev pub invariant-loop-rest : goal.invariant-loop-rest
invariant-loop-rest l = record { same : is_set l.text ≡ is_set l.rest }

abbrev pub decreases-loop-rest : goal.decreases-loop-rest
decreases-loop-rest l = length l.rest
