use Rattle.rt_chart.proofs.Common.{refl}
use Rattle.rt_chart.proofs.Computing.{computing}
use Rattle.rt_chart.proofs.mark_text.put_whole_shape.Goals as goal

pub returns-in-FreshWake-clause-text : goal.returns-in-FreshWake-clause-text
unfolding computing
returns-in-FreshWake-clause-text c = rw (c.in-FreshWake.is, c.put.ensures.text) refl

pub returns-in-KeptWake-clause-text : goal.returns-in-KeptWake-clause-text
unfolding computing
returns-in-KeptWake-clause-text c = rw (c.in-KeptWake.is, c.put-in-KeptWake.ensures.text) refl

pub returns-in-Deadline-clause-text : goal.returns-in-Deadline-clause-text
unfolding computing
returns-in-Deadline-clause-text c = rw (c.in-Deadline.is, c.put-in-Deadline.ensures.text) refl

pub returns-in-End-clause-text : goal.returns-in-End-clause-text
unfolding computing
returns-in-End-clause-text c = rw (c.in-End.is, c.put-in-End.ensures.text) refl
