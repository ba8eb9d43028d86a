use Rattle.rt_chart.proofs.Common.{refl}
use Rattle.std.proofs.Common.{inl, inr}
use Rattle.rt_chart.specs.Key.{key_text}
use Rattle.rt_chart.specs.ChartText.{closing_text}
use Rattle.rt_chart.proofs.Computing.{computing}
use Rattle.rt_chart.proofs.legend.key.Goals as goal

pub returns-in-Shapes-clause-text : goal.returns-in-Shapes-clause-text
unfolding closing_text key_text computing
returns-in-Shapes-clause-text c = rw c.in-Shapes.is refl

pub returns-in-Lines-clause-text : goal.returns-in-Lines-clause-text
unfolding closing_text key_text computing
returns-in-Lines-clause-text c =
    elim c.in-Lines.is [
      | inl lines ↦ rw lines refl
      | inr low ↦ rw low refl
    ]
