-- The text of a wide report as comma-separated values (RFC 4180, with LF): a header, and a line for each row, with the name of its task. A
-- value that isn't there is empty.
use Rattle.std.specs.Prelude.{ℕ, List, ◌++◌, Option, Some, None, codes}
use Rattle.std.specs.List.{flat_map}
use Rattle.rt_image.specs.SystemFile.{TaskSet}
use Rattle.rt_names.specs.TaskNames.{task_names}
use Rattle.rt_history.specs.declared.mode.Mode.{Mode}
use Rattle.rt_history.specs.declared.record.Record.{Record}
use Rattle.rt_report.specs.declared.row.Row.{Row}
use Rattle.rt_report.specs.declared.wide_row.WideCounts.{WideCounts}
use Rattle.rt_report.specs.declared.wide_row.WideRow.{WideRow}
use Rattle.rt_report.specs.JobText.{number_cell}
use Rattle.rt_report.specs.WideRows.{wide_rows}
use Rattle.rt_report.specs.WideText.{stands_text}
use Rattle.rt_report.specs.NameText.{name_end}

-- a value that another follows, where there is one
abbrev pub optional_cell : Option ℕ → List ℕ
optional_cell None = codes ","
optional_cell (Some n) = number_cell n

abbrev pub csv_header : List ℕ
csv_header =
    codes "task,jobs,ticks,min,max,hard,late,stands,most,over,fresh,kept,postponed,yields,granted,refused,response,budget,period,name\n"

-- the columns of the row
abbrev pub csv_row_cells : Row → List ℕ
csv_row_cells r =
    number_cell r.task ++ number_cell r.jobs ++ number_cell r.ticks ++ optional_cell r.least ++ optional_cell r.greatest
    ++ number_cell r.hard ++ number_cell r.late

-- those behind them that the text of the wide report has too
abbrev pub csv_count_cells : Mode → WideCounts → List ℕ
csv_count_cells mode c =
    stands_text mode ++ codes "," ++ optional_cell c.most_ticks ++ number_cell c.overtimes ++ number_cell c.fresh_wakes
    ++ number_cell c.kept_wakes ++ number_cell c.postponements ++ number_cell c.yields

-- and those that it leaves out, but for the name
abbrev pub csv_last_cells : WideRow → List ℕ
csv_last_cells r =
    number_cell r.counts.granted ++ number_cell r.counts.refused ++ number_cell r.counts.response ++ number_cell r.budget
    ++ number_cell r.period

-- all between those of the row and the name
abbrev pub csv_wide_cells : WideRow → List ℕ
csv_wide_cells r = csv_count_cells r.stands r.counts ++ csv_last_cells r

-- the line of a row, where the tasks have these names
abbrev pub csv_line : List (List ℕ) → WideRow → List ℕ
csv_line names r = csv_row_cells r.row ++ csv_wide_cells r ++ name_end names r.row.task

abbrev pub csv_text_of : List (List ℕ) → List WideRow → List ℕ
csv_text_of names rs = csv_header ++ flat_map (csv_line names) rs

-- the text of a set and a whole history of t ticks
abbrev pub csv_text : TaskSet → ℕ → List Record → List ℕ
csv_text set t history = csv_text_of (task_names set) (wide_rows set t history)
