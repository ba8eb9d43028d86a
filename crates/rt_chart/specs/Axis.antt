-- The axis of ticks, and the thin lines that go from its ticks through all rows.
use Rattle.std.specs.Prelude.{ℕ, ◌+◌, ◌%◌, ◌==◌, if◌then◌else◌, List, [], ◌++◌, codes, decimal}
use Rattle.std.specs.List.{flat_map, range_with_len}
use Rattle.rt_chart.specs.declared.axis.TickPart.{TickPart}
use Rattle.rt_chart.specs.declared.axis.TickPart.TheVariants.{Name, Line}
use Rattle.rt_chart.specs.declared.look.Look.{Look}
use Rattle.rt_drawing.specs.Windows.{ticks_in}
use Rattle.rt_chart.specs.Scale.{place, step}
use Rattle.rt_chart.specs.Rows.{is_tall, rows_height, label_room}

-- the name of a tick, below a short line
unfoldable pub tick_label : Look → ℕ → List ℕ
tick_label l t =
    codes "<path class=\"base\" d=\"M" ++ decimal (place l.window l.style t)
    ++ codes ",0v5\" fill=\"none\" stroke=\"#999\" stroke-width=\"1\"/><text class=\"tick\" x=\"" ++ decimal (place l.window l.style t)
    ++ codes "\" y=\"18\" text-anchor=\"middle\">" ++ decimal t ++ codes "</text>\n"

-- a line through rows of this height
unfoldable pub grid_line : Look → ℕ → ℕ → List ℕ
grid_line l height t = codes "<path class=\"grid\" d=\"M" ++ decimal (place l.window l.style t) ++ codes ",0v" ++ decimal height ++ codes "\"/>\n"

abbrev pub part_text : Look → TickPart → ℕ → List ℕ
part_text l Name t = tick_label l t
part_text l (Line height) t = grid_line l height t

-- the ticks of the axis are the multiples of its step, the end of the last tick too
abbrev pub part_at : Look → TickPart → ℕ → List ℕ
part_at l part t = if t % step l.window l.style == 0 then part_text l part t else []

abbrev pub parts_text : Look → TickPart → List ℕ
parts_text l part = flat_map (part_at l part) (range_with_len l.window.from (ticks_in l.window + 1))

abbrev pub labels_text : Look → List ℕ
labels_text l = parts_text l Name

-- the axis above the rows, in a group whose coordinates begin above the picture's
unfoldable pub upper_begin : Look → List ℕ
upper_begin l = codes "<g transform=\"translate(" ++ decimal (label_room l) ++ codes ",-18)\">\n"

abbrev pub upper_axis_text : Look → ℕ → List ℕ
upper_axis_text l count =
    if is_tall count then upper_begin l ++ labels_text l ++ codes "</g>\n" else []

-- the lines through so many rows
unfoldable pub grid_begin : Look → List ℕ
grid_begin l =
    codes "<g transform=\"translate(" ++ decimal (label_room l) ++ codes ",10)\" fill=\"none\" stroke=\"#e5e7eb\" stroke-width=\"1\">\n"

abbrev pub grid_text : Look → ℕ → List ℕ
grid_text l count = grid_begin l ++ parts_text l (Line (rows_height l.style count)) ++ codes "</g>\n"
