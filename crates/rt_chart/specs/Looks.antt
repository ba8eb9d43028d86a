-- What a picture is drawn by: its window, its style, how its marks are drawn, and how long its longest label is.
use Rattle.std.specs.Prelude.{ℕ, ◌*◌, nat_le, Bool, if◌then◌else◌, List, length}
use Rattle.std.specs.List.{list_all}
use Rattle.rt_chart.specs.declared.look.Look.{Look}
use Rattle.rt_chart.specs.declared.look.MarkStyle.{MarkStyle}
use Rattle.rt_chart.specs.declared.look.MarkStyle.TheVariants.{Shapes, Lines, LowLines}
use Rattle.rt_chart.specs.declared.style.Style.{Style}
use Rattle.rt_drawing.specs.declared.window.Window.{Window}
use Rattle.rt_chart.specs.Scale.{width}
use Rattle.rt_drawing.specs.Drawing.{Drawing}
use Rattle.rt_chart.specs.Labels.{longest}

-- a row of at most one mark for 8 units of width has room for shapes
abbrev pub has_room : ℕ → Drawing → Bool
has_room width d = nat_le (8 * length d.marks) width

-- in a compact picture marks are plain lines of low rows; in another, shapes where every row has room for them, and else plain lines
abbrev pub mark_style : Window → Style → List Drawing → MarkStyle
mark_style w s ds = if s.is_compact then LowLines else if list_all (has_room (width w s)) ds then Shapes else Lines

abbrev pub look_of : Window → Style → List Drawing → Look
look_of w s ds = record { window = w; style = s; marks = mark_style w s ds; labels = longest ds }
