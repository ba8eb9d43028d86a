-- A task's jobs (Liu and Layland 1973): its own part of a history, cut after each sleep and each end.
use Rattle.std.specs.Prelude.{ℕ, ◌+◌, ◌-◌, nat_le, nat_lt, Bool, true, false, ◌&&◌, if◌then◌else◌, List, [], ◌∷◌, ◌++◌, length}
use Rattle.std.specs.List.{list_all}
use Rattle.rt_server.specs.Account.{Account, coming}
use Rattle.rt_server.specs.Arrival.{wakes_fresh}
use Rattle.rt_image.specs.SystemFile.{SetTask}
use Rattle.rt_history.specs.declared.record.AttemptOutcome.{AttemptOutcome}
use Rattle.rt_history.specs.declared.record.AttemptOutcome.TheVariants.{End, Sleep, Yield}
use Rattle.rt_history.specs.Serving.{first_serving}
use Rattle.rt_history.specs.OwnPart.{serving_after}

-- a finished job: the tick from which it was asked for, that of its last record, how many records it has, whether its release
-- woke a sleeping task afresh, the budget from that wake on, and whether none of its records is a yield
pub record Job : Type 0 where
  pub release : ℕ
  pub finish : ℕ
  pub ticks : ℕ
  pub fresh : Bool
  pub budget : ℕ
  pub calm : Bool

-- from the release to the end of the last tick
abbrev pub response : Job → ℕ
response j = (j.finish + 1) - j.release

-- a job that its server answers for: released afresh, within the budget, and without a yield
abbrev pub is_hard : Job → Bool
is_hard j = j.fresh && (j.calm && nat_le j.ticks j.budget)

-- hard, and the response is over the period
abbrev pub is_late : ℕ → Job → Bool
is_late period j = is_hard j && nat_lt period (response j)

-- a sleep or an end is the last record of its job
abbrev pub ends_job : AttemptOutcome → Bool
ends_job End = true
ends_job (Sleep w) = true
ends_job _ = false

abbrev pub is_calm : ℕ × AttemptOutcome → Bool
is_calm (u, Yield) = false
is_calm (u, _) = true

-- when a job is released, and whether its task sleeps until then
pub record Release : Type 0 where
  pub tick : ℕ
  pub awaited : Bool

abbrev pub release_by : Release → ℕ → AttemptOutcome → Release
release_by r u (Sleep w) = record { tick = w; awaited = nat_lt u w }
release_by r u _ = r

-- the release of the job after these records: that of the last sleep
abbrev pub release_after : Release → List (ℕ × AttemptOutcome) → Release
release_after r [] = r
release_after r (e ∷ es) = release_after (release_by r e.0 e.1) es

-- the first job is released at the start tick
abbrev pub release_of : SetTask → List (ℕ × AttemptOutcome) → Release
release_of s before = release_after (record { tick = s.start; awaited = true }) before

-- the account after these records
abbrev pub account_after : SetTask → List (ℕ × AttemptOutcome) → Account
account_after s before = (serving_after (first_serving s) before).account

-- whether a release after these records wakes the task afresh
abbrev pub is_fresh : SetTask → Release → List (ℕ × AttemptOutcome) → Bool
is_fresh s r before = r.awaited && wakes_fresh r.tick (account_after s before)

-- the budget from the release on: a fresh wake takes the coming one
abbrev pub budget_of : SetTask → Release → List (ℕ × AttemptOutcome) → ℕ
budget_of s r before = if is_fresh s r before then coming (account_after s before) else (account_after s before).q

-- the job whose records are `piece`, the last of them at tick `finish`, after the records of the jobs before
abbrev pub job_of : SetTask → List (ℕ × AttemptOutcome) → List (ℕ × AttemptOutcome) → ℕ → Job
job_of s before piece finish = record {
  release = (release_of s before).tick;
  finish = finish;
  ticks = length piece;
  fresh = is_fresh s (release_of s before) before;
  budget = budget_of s (release_of s before) before;
  calm = list_all is_calm piece;
}

-- the finished jobs of an own part that goes on after the records `before` of finished jobs and `piece` of the open one
abbrev pub jobs_after : SetTask → List (ℕ × AttemptOutcome) → List (ℕ × AttemptOutcome) → List (ℕ × AttemptOutcome) → List Job
jobs_after s before piece [] = []
jobs_after s before piece (e ∷ es) =
    if ends_job e.1 then job_of s before (piece ++ e ∷ []) e.0 ∷ jobs_after s (before ++ (piece ++ e ∷ [])) [] es
    else jobs_after s before (piece ++ e ∷ []) es

-- the finished jobs of a task's own part
abbrev pub jobs : SetTask → List (ℕ × AttemptOutcome) → List Job
jobs s own = jobs_after s [] [] own
