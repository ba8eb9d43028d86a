use Rattle.rt_chart.proofs.Common.{append_assoc, refl}
use Rattle.rt_chart.proofs.mark_text.put_event.Goals as goal

pub returns-in-Sleep-clause-text : goal.returns-in-Sleep-clause-text
returns-in-Sleep-clause-text g c =
    rw (c.in-Sleep.is, c.put_number.ensures.text, c.put-in-Sleep.ensures.text, c.go_to.ensures) (simp append_assoc refl)

pub returns-in-Postponed-clause-text : goal.returns-in-Postponed-clause-text
returns-in-Postponed-clause-text g c = rw (c.in-Postponed.is, c.put_move.ensures.text, c.put-in-Postponed.ensures.text) (simp append_assoc refl)

pub returns-in-GivenUp-clause-text : goal.returns-in-GivenUp-clause-text
returns-in-GivenUp-clause-text g c = rw (c.in-GivenUp.is, c.put_move-in-GivenUp.ensures.text, c.put-in-GivenUp.ensures.text) (simp append_assoc refl)

pub returns-in-Granted-clause-text : goal.returns-in-Granted-clause-text
returns-in-Granted-clause-text g c =
    rw (c.in-Granted.is, c.put_number-in-Granted.ensures.text, c.put-in-Granted.ensures.text, c.go_to-in-Granted.ensures, c.from.ensures) (simp append_assoc refl)

pub returns-in-FreshWake-clause-text : goal.returns-in-FreshWake-clause-text
returns-in-FreshWake-clause-text g c = rw (c.in-FreshWake.is, c.put_fresh_wake.ensures.text) refl

pub returns-in-KeptWake-clause-text : goal.returns-in-KeptWake-clause-text
returns-in-KeptWake-clause-text g c = rw (c.in-KeptWake.is, c.put.ensures.text) refl

pub returns-in-Refused-clause-text : goal.returns-in-Refused-clause-text
returns-in-Refused-clause-text g c = rw (c.in-Refused.is, c.put-in-Refused.ensures.text) refl
