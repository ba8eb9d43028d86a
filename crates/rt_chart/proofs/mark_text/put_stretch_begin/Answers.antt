use Rattle.rt_chart.proofs.Common.{refl}
use Rattle.rt_chart.proofs.mark_text.put_stretch_begin.Goals as goal

pub returns-in-Run-true-clause-text : goal.returns-in-Run-true-clause-text
returns-in-Run-true-clause-text c = rw (c.in-Run-true.is-0, c.in-Run-true.is-1, c.put.ensures.text) refl

pub returns-in-Run-false-clause-text : goal.returns-in-Run-false-clause-text
returns-in-Run-false-clause-text c = rw (c.in-Run-false.is-0, c.in-Run-false.is-1, c.put-in-Run-false.ensures.text) refl

pub returns-in-Wait-true-clause-text : goal.returns-in-Wait-true-clause-text
returns-in-Wait-true-clause-text c = rw (c.in-Wait-true.is-0, c.in-Wait-true.is-1, c.put-in-Wait-true.ensures.text) refl

pub returns-in-Wait-false-clause-text : goal.returns-in-Wait-false-clause-text
returns-in-Wait-false-clause-text c = rw (c.in-Wait-false.is-0, c.in-Wait-false.is-1, c.put-in-Wait-false.ensures.text) refl
