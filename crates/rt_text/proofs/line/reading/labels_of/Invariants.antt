use Rattle.rt_text.proofs.Common.{◌≡◌, ◌++◌, length, labels_of}
use Rattle.rt_text.proofs.line.reading.labels_of.Given as goal

-- what was found goes before the labels of what is left
abbrev pub invariant-loop-label : goal.invariant-loop-label
invariant-loop-label l = labels_of l.tokens ≡ (l.labels.items ++ (labels_of l.rest).0, (labels_of l.rest).1)

abbrev pub decreases-loop-label : goal.decreases-loop-label
decreases-loop-label l = length l.rest
