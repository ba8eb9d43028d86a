-- The text of the finished jobs: comma-separated values (RFC 4180, with LF), a header and a line for each job.
use Rattle.std.specs.Prelude.{ℕ, Bool, true, false, List, ◌++◌, codes, decimal}
use Rattle.std.specs.List.{flat_map}
use Rattle.rt_image.specs.SystemFile.{TaskSet}
use Rattle.rt_history.specs.declared.record.Record.{Record}
use Rattle.rt_report.specs.declared.finished_job.FinishedJob.{FinishedJob}
use Rattle.rt_report.specs.JobLines.{finished_jobs}

abbrev pub bool_text : Bool → List ℕ
bool_text true = codes "true"
bool_text false = codes "false"

-- a value that another follows
abbrev pub number_cell : ℕ → List ℕ
number_cell n = decimal n ++ codes ","

abbrev pub bool_cell : Bool → List ℕ
bool_cell b = bool_text b ++ codes ","

abbrev pub jobs_header : List ℕ
jobs_header = codes "task,job,release,finish,response,ticks,fresh,calm,hard,late\n"

abbrev pub job_line : FinishedJob → List ℕ
job_line j =
    number_cell j.task ++ number_cell j.number ++ number_cell j.release ++ number_cell j.finish ++ number_cell j.response ++ number_cell j.ticks
    ++ bool_cell j.fresh ++ bool_cell j.calm ++ bool_cell j.hard ++ bool_text j.late ++ codes "\n"

-- the text of a set and a whole history
abbrev pub jobs_text : TaskSet → List Record → List ℕ
jobs_text set history = jobs_header ++ flat_map job_line (finished_jobs set history)
