use Rattle.rt_chart.proofs.Common.{append_assoc, refl}
use Rattle.rt_chart.specs.MarkText.{bar_place}
use Rattle.rt_chart.proofs.mark_text.put_bar.Goals as goal

pub returns-clause-text : goal.returns-clause-text
unfolding bar_place
returns-clause-text g c =
    rw (
      c.put_bar_fill.ensures.text,
      c.put_bar_height.ensures.text,
      c.put_number-2.ensures.text,
      c.put_bar_top.ensures.text,
      c.put_number.ensures.text,
      c.put.ensures.text,
      c.go_to.ensures,
      c.go_to-2.ensures,
      c.extent.ensures c.args.stretch.now.from c.place-place.ensures.value,
      c.place-place.ensures.value,
    ) (simp append_assoc refl)
