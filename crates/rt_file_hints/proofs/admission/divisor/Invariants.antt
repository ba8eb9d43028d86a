use Rattle.rt_file_hints.proofs.admission.divisor.Given as goal

abbrev pub decreases-loop-right : goal.decreases-loop-right
decreases-loop-right l = l.right
