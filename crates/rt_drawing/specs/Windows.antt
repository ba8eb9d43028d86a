-- Which ticks are in a picture.
use Rattle.std.specs.Prelude.{ℕ, ◌-◌, nat_le, nat_lt, Bool, ◌&&◌}
use Rattle.rt_drawing.specs.declared.window.Window.{Window}

abbrev pub is_in : Window → ℕ → Bool
is_in w t = nat_le w.from t && nat_lt t w.to

-- how many ticks it has
abbrev pub ticks_in : Window → ℕ
ticks_in w = w.to - w.from
