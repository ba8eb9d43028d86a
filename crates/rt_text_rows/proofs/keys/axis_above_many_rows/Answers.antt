use Rattle.std.proofs.Common.{◌≡◌, [], refl}
use Rattle.rt_chart.specs.Axis.{upper_axis_text}
use Rattle.rt_chart.specs.Looks.{look_of}
use Rattle.rt_text_rows.specs.Charts.{usual}
use Rattle.rt_text_rows.specs.Keys.{axis_above}
use Rattle.rt_text_rows.proofs.Computing.{computing}
use Rattle.rt_text_rows.proofs.Windows.{HoldsAt, of_ends}
use Rattle.rt_text_rows.proofs.keys.axis_above_many_rows.Goals as goal

above : HoldsAt (λ w. upper_axis_text (look_of w usual []) 13 ≡ axis_above) 0 3
unfolding computing
above some few limit = refl

pub returns-clause-twelve : goal.returns-clause-twelve
returns-clause-twelve c = λ w ends. refl

pub returns-clause-thirteen : goal.returns-clause-thirteen
returns-clause-thirteen c = of_ends (λ w. upper_axis_text (look_of w usual []) 13 ≡ axis_above) 0 3 above
