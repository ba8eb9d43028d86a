use Rattle.rt_profile.proofs.Common.{ℕ, List, ap}
use Rattle.rt_profile.proofs.need_counts.NeedCounts.new.Goals as goal

pub returns : goal.returns
returns c = ap (λ (ns : List ℕ). record { current = 0; counts = ns }) (c.in_ok-counts.ensures.items_if_clones_equal (λ y is. is))
