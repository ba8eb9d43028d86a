-- The text of a profile's rows: a header, a line for each row, and the idle ticks.
use Rattle.std.specs.Prelude.{ℕ, List, ◌++◌, Option, Some, None, codes, decimal}
use Rattle.std.specs.List.{flat_map, enumerate_from}
use Rattle.rt_words.specs.Hex.{hex}
use Rattle.rt_image.specs.ObjectFile.{Label}
use Rattle.rt_image.specs.SystemFile.{SetTask, TaskSet}
use Rattle.rt_history.specs.declared.record.Record.{Record}
use Rattle.rt_report.specs.Rows.{idle_ticks}
use Rattle.rt_report.specs.ReportText.{right, cell, idle_text}
use Rattle.rt_profile.specs.Rows.{PartRow, task_rows}

abbrev pub header_text : List ℕ
header_text =
    right 4 (codes "task") ++ right 14 (codes "address") ++ right 14 (codes "ticks") ++ right 14 (codes "entered") ++ right 14 (codes "most")
    ++ codes "  name\n"

-- where a part begins, and its name; a hyphen where no symbol stands below
abbrev pub address_cell : Option Label → List ℕ
address_cell None = right 14 (codes "-")
address_cell (Some l) = right 14 (hex 8 l.address)

abbrev pub name_text : Option Label → List ℕ
name_text None = codes "-"
name_text (Some l) = l.name

-- what stands before the name
abbrev pub row_cells : PartRow → List ℕ
row_cells r = right 4 (decimal r.task) ++ address_cell r.symbol ++ cell r.ticks ++ cell r.entered ++ cell r.most ++ codes "  "

abbrev pub row_text : PartRow → List ℕ
row_text r = row_cells r ++ name_text r.symbol ++ codes "\n"

-- the lines of task i
abbrev pub task_lines : ℕ → SetTask → List Record → List ℕ
task_lines i s history = flat_map row_text (task_rows i s history)

-- the text of a set and a whole history
abbrev pub rows_text : TaskSet → List Record → List ℕ
rows_text set history = header_text ++ flat_map (λ n. task_lines n.0 n.1 history) (enumerate_from 0 set.tasks) ++ idle_text (idle_ticks history)
