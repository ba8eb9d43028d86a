-- The text of a profile's needs: a header, and a line for each bracket.
use Rattle.std.specs.Prelude.{ℕ, List, ◌++◌, codes, decimal}
use Rattle.std.specs.List.{flat_map, enumerate_from}
use Rattle.rt_image.specs.SystemFile.{SetTask, TaskSet}
use Rattle.rt_history.specs.declared.record.Record.{Record}
use Rattle.rt_report.specs.ReportText.{right, cell}
use Rattle.rt_profile.specs.declared.need_row.NeedRow.{NeedRow}
use Rattle.rt_profile.specs.Needs.{task_needs}

abbrev pub needs_header : List ℕ
needs_header =
    right 4 (codes "task") ++ right 14 (codes "from") ++ right 14 (codes "to") ++ right 14 (codes "jobs") ++ right 14 (codes "within")
    ++ codes "\n"

abbrev pub need_text : NeedRow → List ℕ
need_text r = right 4 (decimal r.task) ++ cell r.from ++ cell r.to ++ cell r.jobs ++ cell r.within ++ codes "\n"

-- the lines of task i
abbrev pub need_lines : ℕ → SetTask → List Record → List ℕ
need_lines i s history = flat_map need_text (task_needs i s history)

-- the text of a set and a whole history
abbrev pub needs_text : TaskSet → List Record → List ℕ
needs_text set history = needs_header ++ flat_map (λ n. need_lines n.0 n.1 history) (enumerate_from 0 set.tasks)
