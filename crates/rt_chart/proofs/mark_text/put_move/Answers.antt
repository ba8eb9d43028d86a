use Rattle.rt_chart.proofs.Common.{append_assoc, refl}
use Rattle.rt_chart.proofs.mark_text.put_move.Goals as goal

pub returns-clause-text : goal.returns-clause-text
returns-clause-text c =
    rw (
      c.put_number-2.ensures.text,
      c.put.ensures.text,
      c.put_number.ensures.text,
      c.go_to.ensures,
      c.go_to-2.ensures,
    ) (simp append_assoc refl)
