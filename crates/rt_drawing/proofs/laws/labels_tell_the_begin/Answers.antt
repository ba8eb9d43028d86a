use Rattle.rt_drawing.proofs.BudgetLaws.{begin-told}
use Rattle.rt_drawing.proofs.laws.labels_tell_the_begin.Goals as goal

pub returns : goal.returns
returns c = begin-told
