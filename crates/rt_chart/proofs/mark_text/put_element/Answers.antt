use Rattle.rt_chart.proofs.Common.{append_assoc, refl}
use Rattle.rt_chart.proofs.mark_text.put_element.Goals as goal

pub returns-clause-text : goal.returns-clause-text
returns-clause-text g c =
    rw (
      c.put_bar_title.ensures.text,
      c.put_bar.ensures.text,
      c.put_bar_begin.ensures.text,
    ) (simp append_assoc refl)
