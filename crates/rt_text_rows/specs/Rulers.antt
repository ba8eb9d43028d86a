-- Rows of the scale of pictures, by how many ticks they have.
use Rattle.std.specs.Prelude.{◌≡◌, ℕ, List, [], ◌∷◌}
use Rattle.rt_drawing.specs.declared.window.Window.{Window}
use Rattle.rt_drawing.specs.Windows.{ticks_in}
use Rattle.rt_chart.specs.Scale.{width, step}
use Rattle.rt_text_rows.specs.Charts.{usual}

-- windows of the first number of ticks have the second as their usual width
abbrev pub WidthsAre : List (ℕ × ℕ) → Type 0
WidthsAre [] = Unit {0}
WidthsAre (e ∷ es) = ((w : Window) → ticks_in w ≡ e.0 → width w usual ≡ e.1) × WidthsAre es

-- as the step of their axis
abbrev pub StepsAre : List (ℕ × ℕ) → Type 0
StepsAre [] = Unit {0}
StepsAre (e ∷ es) = ((w : Window) → ticks_in w ≡ e.0 → step w usual ≡ e.1) × StepsAre es
