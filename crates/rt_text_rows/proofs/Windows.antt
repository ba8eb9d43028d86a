-- What is said of each window with two ends.
use Rattle.std.proofs.Common.{ℕ, sym, subst}
use Rattle.rt_drawing.specs.declared.window.Window.{Window, some-type, few-type, limit-type}
use Rattle.rt_text_rows.specs.Charts.{Spans}

-- what holds of all windows with these ends
abbrev pub HoldsAt : (Window → Type 0) → ℕ → ℕ → Type 0
HoldsAt P from to = (some : some-type from to) (few : few-type from to some) (limit : limit-type from to some few)
    → P (record { from = from; to = to; some = some; few = few; limit = limit })

pub of_ends : (P : Window → Type 0) (from to : ℕ) → HoldsAt P from to → (w : Window) → Spans from to w → P w
of_ends P from to holds w ends =
    subst (λ t. HoldsAt P w.from t) (sym ends.1) (subst (λ u. HoldsAt P u to) (sym ends.0) holds) w.some w.few w.limit
