-- The text of a picture: one file of SVG 1.1, a row for each task, the axis of ticks below, and above too where there are many.
use Rattle.std.specs.Prelude.{ℕ, ◌+◌, ◌-◌, if◌then◌else◌, List, [], ◌++◌, length, codes, decimal}
use Rattle.std.specs.List.{flat_map}
use Rattle.rt_image.specs.SystemFile.{TaskSet}
use Rattle.rt_history.specs.declared.record.Record.{Record}
use Rattle.rt_history.specs.declared.mode.Mode.{Mode}
use Rattle.rt_report.specs.WideText.{stands_text}
use Rattle.rt_drawing.specs.declared.window.Window.{Window}
use Rattle.rt_chart.specs.declared.frame.TheConstants.{STYLE}
use Rattle.rt_chart.specs.declared.mark_text.Bar.TheVariants.{Run, Wait}
use Rattle.rt_chart.specs.declared.look.Look.{Look}
use Rattle.rt_chart.specs.declared.look.MarkStyle.{MarkStyle}
use Rattle.rt_chart.specs.declared.style.Style.{Style}
use Rattle.rt_drawing.specs.Drawing.{Drawing, drawings}
use Rattle.rt_chart.specs.Scale.{width}
use Rattle.rt_chart.specs.Looks.{look_of}
use Rattle.rt_chart.specs.Labels.{label}
use Rattle.rt_chart.specs.Rows.{row_top, base_top, words_top, top_text, whole_height, label_room, is_wide, whole_width}
use Rattle.rt_chart.specs.Axis.{labels_text, upper_axis_text, grid_text}
use Rattle.rt_chart.specs.Ink.{marks_begin}
use Rattle.rt_chart.specs.MarkText.{mark_text, stretch_text}
use Rattle.rt_chart.specs.MissText.{miss_text}
use Rattle.rt_chart.specs.Key.{key_text}

-- the element of the picture, and its title, for so many tasks
unfoldable pub opening_text : Look → ℕ → List ℕ
opening_text l count =
    codes "<svg xmlns=\"http://www.w3.org/2000/svg\" version=\"1.1\" width=\"" ++ decimal (whole_width l) ++ codes "\" height=\""
    ++ decimal (whole_height l.style count) ++ codes "\" viewBox=\"0 " ++ top_text count ++ codes " " ++ decimal (whole_width l) ++ codes " "
    ++ decimal (whole_height l.style count) ++ codes "\">\n<title>ticks " ++ decimal l.window.from ++ codes " to " ++ decimal (l.window.to - 1)
    ++ codes "</title>\n"

-- the ground, and the begin of the group of all that is drawn on it
unfoldable pub ground_text : Look → ℕ → List ℕ
ground_text l count =
    codes "<rect class=\"ground\" y=\"" ++ top_text count ++ codes "\" width=\"" ++ decimal (whole_width l) ++ codes "\" height=\""
    ++ decimal (whole_height l.style count) ++ codes "\" fill=\"#fff\"/>\n<g fill=\"#222\" font-family=\"sans-serif\" font-size=\"12\">\n"

abbrev pub head_text : Look → ℕ → List ℕ
head_text l count = opening_text l count ++ STYLE.now ++ ground_text l count ++ grid_text l count ++ upper_axis_text l count

-- a group whose coordinates begin behind the labels, so far below the top
unfoldable pub group_text : Look → ℕ → List ℕ
group_text l top = codes "<g transform=\"translate(" ++ decimal (label_room l) ++ codes "," ++ decimal top ++ codes ")\">\n"

-- the line on which a task stands
unfoldable pub base_text : Look → List ℕ
base_text l =
    codes "<path class=\"base\" d=\"M0," ++ decimal (base_top l.style) ++ codes "h" ++ decimal (width l.window l.style)
    ++ codes "\" fill=\"none\" stroke=\"#999\" stroke-width=\"1\"/>\n"

-- a label, in an element that begins so far from the left
unfoldable pub label_words : Look → List ℕ → List ℕ
label_words l label = codes "\" y=\"" ++ decimal (words_top l.style) ++ codes "\">" ++ label ++ codes "</text>\n"

-- at the left, and where the picture is wide at the right too
unfoldable pub left_label_text : Look → List ℕ → List ℕ
left_label_text l label = codes "<text x=\"-" ++ decimal (label_room l - 10) ++ label_words l label

abbrev pub right_label_text : Look → List ℕ → List ℕ
right_label_text l label = if is_wide l then codes "<text x=\"" ++ decimal (width l.window l.style + 200) ++ label_words l label else []

-- the end of the marks, and how the task stands behind the last tick
unfoldable pub stands_at : Look → Mode → List ℕ
stands_at l mode =
    codes "</g>\n<text x=\"" ++ decimal (width l.window l.style + 10) ++ codes "\" y=\"" ++ decimal (words_top l.style) ++ codes "\">"
    ++ stands_text mode ++ codes "</text>\n"

-- the end of the row
unfoldable pub end_text : Look → List ℕ → Mode → List ℕ
end_text l label mode = stands_at l mode ++ right_label_text l label ++ codes "</g>\n"

-- the begin of row i: its group, its label, and the line on which its task stands
unfoldable pub begin_text : Look → ℕ → List ℕ → List ℕ
begin_text l i label = group_text l (row_top l.style i) ++ left_label_text l label ++ base_text l

abbrev pub row_text : Look → Drawing → List ℕ
row_text l d =
    begin_text l d.task (label d) ++ flat_map (stretch_text l d.task d.name d.period Wait) d.waits
    ++ flat_map (stretch_text l d.task d.name d.period Run) d.stretches ++ marks_begin ++ flat_map (mark_text l d.task) d.marks ++ miss_text l d.task d.miss
    ++ end_text l (label d) d.stands

-- the key, and the end of the picture
unfoldable pub closing_text : MarkStyle → List ℕ
closing_text style = key_text style ++ codes "</g>\n</g>\n</svg>\n"

abbrev pub axis_text : Look → ℕ → List ℕ
axis_text l count = group_text l (row_top l.style count) ++ labels_text l ++ closing_text l.marks

-- the picture of these rows, as it looks
abbrev pub picture_text : Look → List Drawing → List ℕ
picture_text l ds = head_text l (length ds) ++ flat_map (row_text l) ds ++ axis_text l (length ds)

abbrev pub text_of : Window → Style → List Drawing → List ℕ
text_of w s ds = picture_text (look_of w s ds) ds

-- the picture of a set and a history that ends with the window; of these tasks nothing is over the period
abbrev pub chart_text : Window → Style → List ℕ → TaskSet → List Record → List ℕ
chart_text w s except set history = text_of w s (drawings w except set history)
