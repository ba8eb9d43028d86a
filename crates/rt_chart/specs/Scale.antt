-- How wide a picture is, and where its ticks lie, in units of length.
use Rattle.std.specs.Prelude.{ℕ, ◌+◌, ◌-◌, ◌*◌, ◌/◌, nat_le, min, max, List, [], ◌∷◌, find, unwrap_or}
use Rattle.std.specs.Option.{option_map_or}
use Rattle.rt_chart.specs.declared.style.Style.{Style}
use Rattle.rt_drawing.specs.declared.window.Window.{Window}
use Rattle.rt_drawing.specs.Windows.{ticks_in}

-- ten units for each tick, but 800 at least and 1,600 at most
abbrev pub usual_width : Window → ℕ
usual_width w = min (max (10 * ticks_in w) 800) 1600

-- the width that is asked for, or else the usual one
abbrev pub width : Window → Style → ℕ
width w s = option_map_or (λ asked. asked.units) s.width (usual_width w)

-- where a tick begins; one outside is at the edge
abbrev pub place : Window → Style → ℕ → ℕ
place w s t = min (t - w.from) (ticks_in w) * width w s / ticks_in w

-- the middle of a tick
abbrev pub middle : Window → Style → ℕ → ℕ
middle w s t = place w s t + width w s / (2 * ticks_in w)

-- the width of a stretch, of which something is to be seen
abbrev pub extent : Window → Style → ℕ → ℕ → ℕ
extent w s from to = max (place w s to - place w s from) 1

-- the ticks that the axis names are multiples of the first of these steps that is 100 units wide
abbrev pub steps : List ℕ
steps = 1 ∷ 2 ∷ 5 ∷ 10 ∷ 20 ∷ 50 ∷ 100 ∷ 200 ∷ 500 ∷ 1000 ∷ 2000 ∷ 5000 ∷ 10000 ∷ 20000 ∷ []

abbrev pub step : Window → Style → ℕ
step w s = unwrap_or (find (λ n. nat_le (100 * ticks_in w) (n * width w s)) steps) 50000
