use Rattle.rt_chart.proofs.Common.{append_assoc, refl}
use Rattle.rt_chart.proofs.mark_text.put_over.Goals as goal

pub returns-then-stretch-clause-text : goal.returns-then-stretch-clause-text
returns-then-stretch-clause-text c =
    rw (c.if-stretch.true, c.put_number.ensures.text, c.put.ensures.text, c.go_to.ensures, c.over_since.ensures) (simp append_assoc refl)
