use Rattle.std.proofs.Common.{◌≡◌, refl}
use Rattle.rt_text_rows.specs.Charts.{rows_drawn, short, short_text}
use Rattle.rt_text_rows.proofs.Computing.{computing}
use Rattle.rt_text_rows.proofs.Windows.{HoldsAt, of_ends}
use Rattle.rt_text_rows.proofs.charts.rows_of_pictures.Goals as goal

at_ends : HoldsAt (λ w. rows_drawn w short ≡ short_text) 0 3
unfolding computing
at_ends some few limit = refl

pub returns : goal.returns
returns c = of_ends (λ w. rows_drawn w short ≡ short_text) 0 3 at_ends
