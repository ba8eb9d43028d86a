use Rattle.rt_chart.proofs.Common.{append_assoc, refl}
use Rattle.rt_chart.specs.MarkText.{job_words}
use Rattle.rt_chart.proofs.mark_text.put_job.Goals as goal

pub returns-clause-text : goal.returns-clause-text
unfolding job_words
returns-clause-text c =
    rw (
      c.put_number-4.ensures.text,
      c.put-4.ensures.text,
      c.put_number-3.ensures.text,
      c.put-3.ensures.text,
      c.put_number-2.ensures.text,
      c.put-2.ensures.text,
      c.put_number.ensures.text,
      c.put.ensures.text,
      c.go_to.ensures,
      c.go_to-2.ensures,
      c.go_to-3.ensures,
      c.go_to-4.ensures,
      c.response_of.ensures,
    ) (simp append_assoc refl)
