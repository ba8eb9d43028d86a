use Rattle.rt_chart.proofs.Common.{refl}
use Rattle.rt_chart.proofs.mark_text.put_class.Goals as goal

pub returns-in-FreshWake-clause-text : goal.returns-in-FreshWake-clause-text
returns-in-FreshWake-clause-text c = rw (c.in-FreshWake.is, c.put.ensures.text) refl

pub returns-in-KeptWake-clause-text : goal.returns-in-KeptWake-clause-text
returns-in-KeptWake-clause-text c = rw (c.in-KeptWake.is, c.put-in-KeptWake.ensures.text) refl

pub returns-in-Deadline-clause-text : goal.returns-in-Deadline-clause-text
returns-in-Deadline-clause-text c = rw (c.in-Deadline.is, c.put-in-Deadline.ensures.text) refl

pub returns-in-Postponed-clause-text : goal.returns-in-Postponed-clause-text
returns-in-Postponed-clause-text c = rw (c.in-Postponed.is, c.put-in-Postponed.ensures.text) refl

pub returns-in-GivenUp-clause-text : goal.returns-in-GivenUp-clause-text
returns-in-GivenUp-clause-text c = rw (c.in-GivenUp.is, c.put-in-GivenUp.ensures.text) refl

pub returns-in-End-clause-text : goal.returns-in-End-clause-text
returns-in-End-clause-text c = rw (c.in-End.is, c.put-in-End.ensures.text) refl

pub returns-in-Yield-clause-text : goal.returns-in-Yield-clause-text
returns-in-Yield-clause-text c = rw (c.in-Yield.is, c.put-in-Yield.ensures.text) refl

pub returns-in-Sleep-clause-text : goal.returns-in-Sleep-clause-text
returns-in-Sleep-clause-text c = rw (c.in-Sleep.is, c.put-in-Sleep.ensures.text) refl

pub returns-in-Fault-clause-text : goal.returns-in-Fault-clause-text
returns-in-Fault-clause-text c = rw (c.in-Fault.is, c.put-in-Fault.ensures.text) refl

pub returns-in-Granted-clause-text : goal.returns-in-Granted-clause-text
returns-in-Granted-clause-text c = rw (c.in-Granted.is, c.put-in-Granted.ensures.text) refl

pub returns-in-Refused-clause-text : goal.returns-in-Refused-clause-text
returns-in-Refused-clause-text c = rw (c.in-Refused.is, c.put-in-Refused.ensures.text) refl
