use Rattle.rt_drawing.proofs.Common.{sym, ◌∙◌}
use Rattle.rt_drawing.proofs.PlainLaws.{drawn-once}
use Rattle.rt_drawing.proofs.sketch.Sketch.begin_plain.Goals as goal

pub returns-clause-ok : goal.returns-clause-ok
returns-clause-ok c = c.in_ok-take.ensures.ok ∙ sym (drawn-once c.args.window.now c.args.u c.args.self.now)
