use Rattle.std.proofs.Common.{◌≡◌, [], ◌∷◌, refl}
use Rattle.rt_rows.specs.Reporting.{soft_set}
use Rattle.rt_text_rows.specs.Charts.{drawn, soft_drawing, soft_part}
use Rattle.rt_text_rows.proofs.Computing.{computing}
use Rattle.rt_text_rows.proofs.Windows.{HoldsAt, of_ends}
use Rattle.rt_text_rows.proofs.charts.what_is_drawn.Goals as goal

at_whole : HoldsAt (λ w. drawn w soft_set ≡ soft_drawing ∷ []) 0 30
unfolding computing
at_whole some few limit = refl

at_part : HoldsAt (λ w. drawn w soft_set ≡ soft_part ∷ []) 9 26
unfolding computing
at_part some few limit = refl

pub returns-clause-whole : goal.returns-clause-whole
returns-clause-whole c = of_ends (λ w. drawn w soft_set ≡ soft_drawing ∷ []) 0 30 at_whole

pub returns-clause-part : goal.returns-clause-part
returns-clause-part c = of_ends (λ w. drawn w soft_set ≡ soft_part ∷ []) 9 26 at_part
