-- The text of a detailed list of jobs, with the names of their tasks, and the lines of jobs that aren't finished: comma-separated values
-- (RFC 4180, with LF). A value that isn't there is empty.
use Rattle.std.specs.Prelude.{ℕ, nat_lt, Bool, true, false, List, ◌++◌, codes}
use Rattle.std.specs.List.{flat_map}
use Rattle.rt_image.specs.SystemFile.{TaskSet}
use Rattle.rt_names.specs.TaskNames.{task_names}
use Rattle.rt_history.specs.declared.record.Record.{Record}
use Rattle.rt_report.specs.declared.finished_job.FinishedJob.{FinishedJob}
use Rattle.rt_report.specs.declared.detailed_job.JobDetail.{JobDetail}
use Rattle.rt_report.specs.declared.detailed_job.DetailedJob.{DetailedJob}
use Rattle.rt_report.specs.declared.detailed_job.UnfinishedJob.{UnfinishedJob}
use Rattle.rt_report.specs.JobText.{number_cell, bool_cell, jobs_text}
use Rattle.rt_report.specs.CsvText.{optional_cell}
use Rattle.rt_report.specs.JobDetails.{detailed_jobs, unfinished_jobs}
use Rattle.rt_report.specs.NameText.{name_end}

abbrev pub detailed_header : List ℕ
detailed_header = codes "task,job,release,finish,response,ticks,fresh,calm,hard,late,start,budget,deadline,interrupted,period,over,name\n"

-- the columns of the list without details
abbrev pub job_cells : FinishedJob → List ℕ
job_cells j =
    number_cell j.task ++ number_cell j.number ++ number_cell j.release ++ number_cell j.finish ++ number_cell j.response ++ number_cell j.ticks
    ++ bool_cell j.fresh ++ bool_cell j.calm ++ bool_cell j.hard ++ bool_cell j.late

-- those behind them, and the period
abbrev pub detail_cells : JobDetail → ℕ → List ℕ
detail_cells d period = optional_cell d.start ++ number_cell d.budget ++ number_cell d.deadline ++ number_cell d.interrupted ++ number_cell period

-- all up to the name: whether the response is over the period, whether the job is hard or not
abbrev pub detailed_cells : DetailedJob → List ℕ
detailed_cells j = detail_cells j.detail j.period ++ bool_cell (nat_lt j.period j.job.response)

-- the line of a job, where the tasks have these names
abbrev pub detailed_line : List (List ℕ) → DetailedJob → List ℕ
detailed_line names j = job_cells j.job ++ detailed_cells j ++ name_end names j.job.task

-- the text of a set and a whole history
abbrev pub detailed_text : TaskSet → List Record → List ℕ
detailed_text set history = detailed_header ++ flat_map (detailed_line (task_names set)) (detailed_jobs set history)

-- with details or without
abbrev pub listed_text : Bool → TaskSet → List Record → List ℕ
listed_text true set history = detailed_text set history
listed_text false set history = jobs_text set history

-- of a job that isn't finished, which has no finish and no response, and isn't known to be hard, late or over the period
abbrev pub unfinished_cells : UnfinishedJob → List ℕ
unfinished_cells j =
    number_cell j.task ++ number_cell j.number ++ number_cell j.release ++ codes ",," ++ number_cell j.ticks
    ++ bool_cell j.fresh ++ bool_cell j.calm ++ codes ","

-- behind them, with details and the name or without
abbrev pub unfinished_rest : Bool → List (List ℕ) → UnfinishedJob → List ℕ
unfinished_rest true names j = codes "," ++ detail_cells j.detail j.period ++ codes "," ++ name_end names j.task
unfinished_rest false names j = codes "\n"

abbrev pub unfinished_line : Bool → List (List ℕ) → UnfinishedJob → List ℕ
unfinished_line details names j = unfinished_cells j ++ unfinished_rest details names j

-- a line for each task that has one
abbrev pub unfinished_text : Bool → TaskSet → List Record → List ℕ
unfinished_text details set history = flat_map (unfinished_line details (task_names set)) (unfinished_jobs set history)
