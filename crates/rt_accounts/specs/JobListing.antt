-- What the list of the jobs of a system means, and how it is written part by part.
use Rattle.std.specs.Prelude.{◌≡◌, ℕ, ◌++◌, min, List, [], Bool, true, false, if◌then◌else◌, Result, Ok, Err}
use Rattle.rt_sink.specs.Seen.{Seen}
use Rattle.rt_words.specs.Limits.{tick_limit}
use Rattle.rt_sink.specs.Sink.{Writes}
use Rattle.rt_sink.specs.declared.sink.DeviceFault.{DeviceFault}
use Rattle.rt_admit.specs.declared.admission.Admission.{Admission}
use Rattle.rt_image.specs.SystemFile.{TaskSet}
use Rattle.rt_history.specs.Legal.{legal}
use Rattle.rt_report.specs.JobText.{jobs_header}
use Rattle.rt_report.specs.DetailText.{detailed_header, listed_text, unfinished_text}
use Rattle.rt_opening.specs.Sets.{SetMeans}
use Rattle.rt_accounts.specs.Accounting.{Accounts, IsAccounted}
use Rattle.rt_accounts.specs.declared.list_jobs.JobsForm.{JobsForm}
use Rattle.rt_opening.specs.declared.fault.SimFault.{SimFault}

-- the header of a list with details or without
abbrev pub header_with : Bool → List ℕ
header_with true = detailed_header
header_with false = jobs_header

-- what stands behind the lines of the finished jobs of the legal history of t ticks
abbrev pub behind_text : JobsForm → TaskSet → ℕ → List ℕ
behind_text form set t = if form.unfinished then unfinished_text form.details set (legal set t) else []

-- the jobs of the legal history of t ticks
abbrev pub form_text : JobsForm → TaskSet → ℕ → List ℕ
form_text form set t = listed_text form.details set (legal set t) ++ behind_text form set t

abbrev pub JobsMeans : List ℕ → Admission → JobsForm → ℕ → Result (List ℕ) SimFault → Type 0
JobsMeans file admission form n = SetMeans admission (λ s. form_text form s (min n tick_limit)) file

abbrev pub RunsTo : TaskSet → ℕ → Result Accounts DeviceFault → Type 0
RunsTo set n (Ok run) = IsAccounted set n run
RunsTo set n (Err fault) = Unit {0}

-- From t ticks on a run has gone to tick n, and by how much the lines have grown was written; or the sink failed within that.
pub record WritesOn {S : Type 0} (seen : S → Seen) (set : TaskSet) (details : Bool) (t n : ℕ) (old : S) (result : Result Accounts DeviceFault) (new : S) : Type 0 where
  pub more : List ℕ
  pub grown : listed_text details set (legal set n) ≡ listed_text details set (legal set t) ++ more
  pub written : Writes seen old more result new
  pub run : RunsTo set n result
