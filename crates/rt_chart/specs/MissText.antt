-- The text of a missed deadline: a line through the whole row of its task, where the first tick begins that the task misses it at.
use Rattle.std.specs.Prelude.{ℕ, Option, None, Some, List, [], ◌++◌, codes, decimal}
use Rattle.rt_drawing.specs.declared.miss.Miss.{Miss}
use Rattle.rt_chart.specs.declared.look.Look.{Look}
use Rattle.rt_chart.specs.Scale.{place}
use Rattle.rt_chart.specs.Rows.{row_height}

-- the line; no style sheet changes its colour, since it is no path
unfoldable pub miss_line : Look → ℕ → Miss → List ℕ
miss_line l i m =
    codes "<line class=\"breach\" data-task=\"" ++ decimal i ++ codes "\" data-tick=\"" ++ decimal m.tick ++ codes "\" x1=\"" ++ decimal (place l.window l.style m.tick)
    ++ codes "\" y1=\"0\" x2=\"" ++ decimal (place l.window l.style m.tick) ++ codes "\" y2=\"" ++ decimal (row_height l.style)
    ++ codes "\" stroke=\"#e5484d\" stroke-width=\"2\">"

-- its title
unfoldable pub miss_title : Miss → List ℕ
miss_title m =
    codes "<title>tick " ++ decimal m.tick ++ codes ": deadline " ++ decimal m.deadline ++ codes " passed with " ++ decimal m.unspent
    ++ codes " ticks of the budget unspent</title></line>\n"

abbrev pub miss_text : Look → ℕ → Option Miss → List ℕ
miss_text l i None = []
miss_text l i (Some m) = miss_line l i m ++ miss_title m
