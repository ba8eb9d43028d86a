-- The text of a wide report: the columns of the report, then those of the wide rows, and the names of the tasks.
use Rattle.std.specs.Prelude.{ℕ, List, ◌++◌, codes, decimal}
use Rattle.std.specs.List.{flat_map}
use Rattle.rt_exec.specs.Numbering.{fault_name}
use Rattle.rt_image.specs.SystemFile.{TaskSet}
use Rattle.rt_names.specs.TaskNames.{task_names}
use Rattle.rt_history.specs.declared.mode.Mode.{Mode}
use Rattle.rt_history.specs.declared.mode.Mode.TheVariants.{Active, Asleep, Ended, Faulted}
use Rattle.rt_history.specs.declared.record.Record.{Record}
use Rattle.rt_report.specs.declared.row.Row.{Row}
use Rattle.rt_report.specs.declared.wide_row.WideRow.{WideRow}
use Rattle.rt_report.specs.Rows.{idle_ticks}
use Rattle.rt_report.specs.ReportText.{right, cell, response_cell, idle_text}
use Rattle.rt_report.specs.WideRows.{wide_rows}
use Rattle.rt_report.specs.NameText.{name_end}

-- how a task stands, in one word
abbrev pub stands_text : Mode → List ℕ
stands_text Active = codes "active"
stands_text (Asleep w) = codes "asleep"
stands_text Ended = codes "ended"
stands_text (Faulted fault) = fault_name fault

abbrev pub wide_header_text : List ℕ
wide_header_text =
    right 4 (codes "task") ++ right 14 (codes "jobs") ++ right 14 (codes "ticks") ++ right 14 (codes "min") ++ right 14 (codes "max")
    ++ right 14 (codes "hard") ++ right 14 (codes "late") ++ right 18 (codes "stands") ++ right 14 (codes "most") ++ right 14 (codes "over")
    ++ right 14 (codes "fresh") ++ right 14 (codes "kept") ++ right 14 (codes "postponed") ++ right 14 (codes "yields") ++ right 14 (codes "budget")
    ++ right 14 (codes "period") ++ codes "  name\n"

-- the cells of a row, as the report without them has it
abbrev pub row_cells : Row → List ℕ
row_cells r =
    right 4 (decimal r.task) ++ cell r.jobs ++ cell r.ticks ++ response_cell r.least ++ response_cell r.greatest ++ cell r.hard ++ cell r.late

-- and those behind them, up to the name, which isn't to the right of its column
abbrev pub wide_cells : WideRow → List ℕ
wide_cells r =
    right 18 (stands_text r.stands) ++ response_cell r.counts.most_ticks ++ cell r.counts.overtimes ++ cell r.counts.fresh_wakes
    ++ cell r.counts.kept_wakes ++ cell r.counts.postponements ++ cell r.counts.yields ++ cell r.budget ++ cell r.period ++ codes "  "

-- the line of a row, where the tasks have these names
abbrev pub wide_row_text : List (List ℕ) → WideRow → List ℕ
wide_row_text names r = row_cells r.row ++ wide_cells r ++ name_end names r.row.task

-- the text of these rows and so many idle ticks
abbrev pub wide_text_of : List (List ℕ) → List WideRow → ℕ → List ℕ
wide_text_of names rs idle = wide_header_text ++ flat_map (wide_row_text names) rs ++ idle_text idle

-- the text of a set and a whole history of t ticks
abbrev pub wide_text : TaskSet → ℕ → List Record → List ℕ
wide_text set t history = wide_text_of (task_names set) (wide_rows set t history) (idle_ticks history)
