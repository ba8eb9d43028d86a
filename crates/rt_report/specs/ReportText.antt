-- The text of a report: a header, a line for each row, and the idle ticks.
use Rattle.std.specs.Prelude.{ℕ, ◌-◌, List, ◌++◌, length, replicate, Option, Some, None, codes, decimal}
use Rattle.std.specs.List.{flat_map}
use Rattle.rt_image.specs.SystemFile.{TaskSet}
use Rattle.rt_history.specs.declared.record.Record.{Record}
use Rattle.rt_report.specs.declared.row.Row.{Row}
use Rattle.rt_report.specs.Rows.{rows, idle_ticks}

-- a text to the right of so many places, with blanks before it
abbrev pub right : ℕ → List ℕ → List ℕ
right places text = replicate (places - length text) 32 ++ text

-- a number, and a response or a hyphen where no job has finished
abbrev pub cell : ℕ → List ℕ
cell n = right 14 (decimal n)

abbrev pub response_cell : Option ℕ → List ℕ
response_cell None = right 14 (codes "-")
response_cell (Some n) = cell n

abbrev pub header_text : List ℕ
header_text =
    right 4 (codes "task") ++ right 14 (codes "jobs") ++ right 14 (codes "ticks") ++ right 14 (codes "min") ++ right 14 (codes "max")
    ++ right 14 (codes "hard") ++ right 14 (codes "late") ++ codes "\n"

abbrev pub row_text : Row → List ℕ
row_text r =
    right 4 (decimal r.task) ++ cell r.jobs ++ cell r.ticks ++ response_cell r.least ++ response_cell r.greatest ++ cell r.hard ++ cell r.late ++ codes "\n"

abbrev pub idle_text : ℕ → List ℕ
idle_text n = codes "idle" ++ cell n ++ codes "\n"

-- the text of these rows and so many idle ticks
abbrev pub text_of : List Row → ℕ → List ℕ
text_of rs idle = header_text ++ flat_map row_text rs ++ idle_text idle

-- the text of a set and a whole history
abbrev pub report_text : TaskSet → List Record → List ℕ
report_text set history = text_of (rows set history) (idle_ticks history)
