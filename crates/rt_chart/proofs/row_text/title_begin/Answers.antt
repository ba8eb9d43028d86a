use Rattle.rt_chart.proofs.Common.{append_assoc, refl, title_begin}
use Rattle.rt_chart.proofs.row_text.title_begin.Goals as goal

pub returns : goal.returns
unfolding title_begin
returns c =
    rw (
      c.new.ensures,
      c.deref.ensures.0,
      c.push_text-3.ensures.text,
      c.push_text-2.ensures.text,
      c.push_decimal.ensures.text,
      c.push_text.ensures.text,
      c.from.ensures,
      c.new-title.ensures,
    ) (simp append_assoc refl)
