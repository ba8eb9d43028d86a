use Rattle.rt_chart.proofs.Common.{refl}
use Rattle.rt_chart.proofs.Computing.{computing}
use Rattle.rt_chart.proofs.mark_text.put_line_shape.Goals as goal

pub returns-in-End-clause-text : goal.returns-in-End-clause-text
unfolding computing
returns-in-End-clause-text c = rw (c.in-End.is, c.put-in-End.ensures.text) refl
