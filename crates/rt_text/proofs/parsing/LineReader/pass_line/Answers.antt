use Rattle.rt_text.proofs.Common.{◌+◌, sym, ap, ◌∙◌, result_err}
use Rattle.rt_text.specs.Reading.{Reading}
use Rattle.rt_text.proofs.parsing.LineReader.pass_line.Goals as goal

pub returns : goal.returns
returns c = (
  (c.self.inside.place, c.cut_line.result.0.now),
  sym (ap (λ (r : Reading). r.lines) c.self.view_is) ∙ c.cut_line.ensures.first c.self.inside.place,
  c.err.ensures.value ∙ ap result_err c.in_ok-read.ensures,
  ap (λ (r : Reading). r.number + 1) c.self.view_is,
)
