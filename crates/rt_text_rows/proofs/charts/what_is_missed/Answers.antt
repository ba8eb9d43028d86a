use Rattle.std.proofs.Common.{◌≡◌, [], ◌∷◌, None, Some, refl}
use Rattle.rt_text_rows.specs.Charts.{misses_drawn, lacks_one}
use Rattle.rt_text_rows.proofs.Computing.{computing}
use Rattle.rt_text_rows.proofs.Windows.{HoldsAt, of_ends}
use Rattle.rt_text_rows.proofs.charts.what_is_missed.Goals as goal

at_first : HoldsAt (λ w. misses_drawn w ≡ None ∷ Some lacks_one ∷ []) 0 12
unfolding computing
at_first some few limit = refl

behind_it : HoldsAt (λ w. misses_drawn w ≡ None ∷ None ∷ []) 11 21
unfolding computing
behind_it some few limit = refl

pub returns-clause-shown : goal.returns-clause-shown
returns-clause-shown c = of_ends (λ w. misses_drawn w ≡ None ∷ Some lacks_one ∷ []) 0 12 at_first

pub returns-clause-before : goal.returns-clause-before
returns-clause-before c = of_ends (λ w. misses_drawn w ≡ None ∷ None ∷ []) 11 21 behind_it
