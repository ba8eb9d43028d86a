use Rattle.rt_chart.proofs.Common.{append_assoc, refl, mark_text}
use Rattle.rt_chart.proofs.mark_text.put_happening.Goals as goal

pub returns-clause-text : goal.returns-clause-text
unfolding mark_text
returns-clause-text g c =
    rw (
      c.put-5.ensures.text,
      c.put_event.ensures.text,
      c.put-4.ensures.text,
      c.put_number-4.ensures.text,
      c.put-3.ensures.text,
      c.ink_and_title.ensures.text,
      c.put_shape.ensures.text,
      c.put_number-3.ensures.text,
      c.put-2.ensures.text,
      c.put_number-2.ensures.text,
      c.put.ensures.text,
      c.put_number.ensures.text,
      c.put_class.ensures.text,
      c.go_to.ensures,
      c.go_to-2.ensures,
      c.place.ensures,
    ) (simp append_assoc refl)
