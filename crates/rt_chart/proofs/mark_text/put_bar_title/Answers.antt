use Rattle.rt_chart.proofs.Common.{append_assoc, refl}
use Rattle.rt_chart.specs.Working.Titled.{titled_end}
use Rattle.rt_chart.proofs.mark_text.put_bar_title.Goals as goal

pub returns-clause-text : goal.returns-clause-text
unfolding titled_end
returns-clause-text g c =
    rw (
      c.put-2.ensures.text,
      c.put_job.ensures.text,
      c.put_over.ensures.text,
      c.put_before.ensures.text,
      c.put.ensures.text,
      c.put_number.ensures.text,
      c.put_bar_words.ensures.text,
      c.put_kept.ensures.text,
      c.requires.first,
      c.requires.second,
    ) (simp append_assoc refl)
