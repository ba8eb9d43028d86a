use Rattle.rt_chart.proofs.Common.{append_assoc, refl}
use Rattle.rt_chart.specs.MarkText.{bar_begin}
use Rattle.rt_chart.proofs.mark_text.put_bar_begin.Goals as goal

pub returns-clause-text : goal.returns-clause-text
unfolding bar_begin
returns-clause-text g c =
    rw (
      c.put_number-3.ensures.text,
      c.put-2.ensures.text,
      c.put_number-2.ensures.text,
      c.put.ensures.text,
      c.put_number.ensures.text,
      c.put_stretch_begin.ensures.text,
      c.go_to.ensures,
      c.go_to-2.ensures,
    ) (simp append_assoc refl)
