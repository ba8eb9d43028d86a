-- The text of a stretch whose title begins with a given text, as it is written: that of a row's task is put together once.
use Rattle.std.specs.Prelude.{ℕ, ◌-◌, List, ◌++◌, codes, decimal}
use Rattle.rt_drawing.specs.declared.stretch.Stretch.{Stretch}
use Rattle.rt_chart.specs.declared.look.Look.{Look}
use Rattle.rt_chart.specs.declared.mark_text.Bar.{Bar}
use Rattle.rt_chart.specs.MarkText.{bar_words, over_words, over_since, job_words, bar_begin, bar_place}

-- how the title of each of a task's stretches begins
unfoldable pub title_begin : ℕ → List ℕ → List ℕ
title_begin i name = codes "\"><title>task " ++ decimal i ++ codes " " ++ name

-- the title, and the end of the element
unfoldable pub titled_end : List ℕ → ℕ → Bar → Stretch → List ℕ
titled_end title period bar s =
    title ++ bar_words bar ++ decimal s.from ++ codes " to " ++ decimal (s.to - 1) ++ over_words s.over (over_since period s) ++ job_words s
    ++ codes "</title></rect>\n"

abbrev pub titled_text : Look → ℕ → List ℕ → ℕ → Bar → Stretch → List ℕ
titled_text l i title period bar s = bar_begin i bar s ++ bar_place l bar s ++ titled_end title period bar s
