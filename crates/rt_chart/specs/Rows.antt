-- Where the rows of a picture lie, and how wide and high it is, in units of length.
use Rattle.std.specs.Prelude.{ℕ, ◌+◌, ◌*◌, nat_lt, Bool, if◌then◌else◌, List, codes}
use Rattle.rt_chart.specs.declared.look.Look.{Look}
use Rattle.rt_chart.specs.declared.style.Style.{Style}
use Rattle.rt_chart.specs.Scale.{width}

-- each row has 56 units, or 20 where the picture is compact
abbrev pub row_height : Style → ℕ
row_height s = if s.is_compact then 20 else 56

abbrev pub rows_height : Style → ℕ → ℕ
rows_height s count = row_height s * count

-- where row i begins; where there are so many, the axis does
abbrev pub row_top : Style → ℕ → ℕ
row_top s i = 10 + rows_height s i

-- how far below the top of its row the line is on which a task stands, and that on which words do
abbrev pub base_top : Style → ℕ
base_top s = if s.is_compact then 16 else 42

abbrev pub words_top : Style → ℕ
words_top s = if s.is_compact then 14 else 40

-- a picture of more than 12 tasks is tall: it has the axis above its rows too
abbrev pub is_tall : ℕ → Bool
is_tall count = nat_lt 12 count

-- for which there are 24 units above those of all pictures
abbrev pub head_room : ℕ → ℕ
head_room count = if is_tall count then 24 else 0

abbrev pub top_text : ℕ → List ℕ
top_text count = if is_tall count then codes "-24" else codes "0"

-- 80 units for the axis and the key below the rows
abbrev pub whole_height : Style → ℕ → ℕ
whole_height s count = head_room count + row_top s count + 80

-- where the ticks are wider than 1,600 units, tasks are named at the right again
abbrev pub is_wide : Look → Bool
is_wide l = nat_lt 1600 (width l.window l.style)

-- the column of the labels is as wide as the longest of them, by 7 units for each letter, and has a margin of 10 units at each side
abbrev pub label_room : Look → ℕ
label_room l = 7 * l.labels + 20

-- for how tasks stand at the right, and for their labels there
abbrev pub right_room : Look → ℕ
right_room l = if is_wide l then 190 + label_room l else 190

-- the labels are at the left
abbrev pub whole_width : Look → ℕ
whole_width l = label_room l + width l.window l.style + right_room l
