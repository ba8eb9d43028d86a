-- The scale of a window, by how many ticks it has.
use Rattle.std.proofs.Common.{◌≡◌, ℕ, ◌*◌, nat_le, min, max, find, unwrap_or, ap, ◌∙◌}
use Rattle.rt_drawing.specs.declared.window.Window.{Window}
use Rattle.rt_drawing.specs.Windows.{ticks_in}
use Rattle.rt_chart.specs.Scale.{width, steps, step}
use Rattle.rt_text_rows.specs.Charts.{usual}

abbrev width_of : ℕ → ℕ
width_of n = min (max (10 * n) 800) 1600

abbrev step_of : ℕ → ℕ
step_of n = unwrap_or (find (λ s. nat_le (100 * n) (s * width_of n)) steps) 50000

pub width_is : (n x : ℕ) → width_of n ≡ x → (w : Window) → ticks_in w ≡ n → width w usual ≡ x
width_is n x is w ticks = ap width_of ticks ∙ is

pub step_is : (n x : ℕ) → step_of n ≡ x → (w : Window) → ticks_in w ≡ n → step w usual ≡ x
step_is n x is w ticks = ap step_of ticks ∙ is
