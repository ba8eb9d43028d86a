-- When a task has a job that doesn't run, and which ticks of a job are over its period (Liu and Layland 1973).
use Rattle.std.specs.Prelude.{ℕ, ◌+◌, ◌<◌, ◌≤◌, ◌⊎◌, nat_le, nat_lt, min, max, if◌then◌else◌, Bool, true, false, List, [], ◌∷◌, ◌++◌}
use Rattle.std.specs.List.{flat_map}
use Rattle.rt_image.specs.SystemFile.{SetTask}
use Rattle.rt_history.specs.declared.mode.Mode.{Mode}
use Rattle.rt_history.specs.declared.mode.Mode.TheVariants.{Active}
use Rattle.rt_history.specs.declared.record.AttemptOutcome.{AttemptOutcome}
use Rattle.rt_history.specs.Serving.{first_serving, due}
use Rattle.rt_history.specs.OwnPart.{serving_after}
use Rattle.rt_drawing.specs.declared.job.Job.{Job}
use Rattle.rt_drawing.specs.declared.stretch.Stretch.{Stretch}
use Rattle.rt_drawing.specs.declared.window.Window.{Window}
use Rattle.rt_drawing.specs.Jobs.{first_job, job_by, job_after}

-- the ticks from one on, up to another that is no longer in it, and how far their job has come by then
abbrev pub stretch : ℕ → ℕ → Bool → Job → Stretch
stretch from to over j = record { from = from; to = to; over = over; job = j }

-- the tick behind the last of these records; where there is none, this one
abbrev pub behind : ℕ → List (ℕ × AttemptOutcome) → ℕ
behind t [] = t
behind t (e ∷ es) = behind (e.0 + 1) es

-- a tick of a task's own, the tick from which on its job waited for it, the first tick that is over that job's period, and the job, how
-- far it had come before
pub record Turn : Type 0 where
  pub since : ℕ
  pub tick : ℕ
  pub over_from : ℕ
  pub job : Job

-- the turn of tick u, behind records up to tick b: its job waited from its release on, or from the task's last tick on. A response
-- is over from the release and as many ticks on as are allowed: those of a period.
abbrev pub turn : ℕ → Job → ℕ → ℕ → Turn
turn allowed j b u = record { since = max b j.release; tick = u; over_from = j.release + allowed; job = j }

abbrev pub is_over : Turn → Bool
is_over t = nat_le t.over_from t.tick

-- the turns of records that come behind tick b, this job being open
abbrev pub turns_after : ℕ → Job → ℕ → List (ℕ × AttemptOutcome) → List Turn
turns_after allowed j b [] = []
turns_after allowed j b (e ∷ es) = turn allowed j b e.0 ∷ turns_after allowed (job_by j e.1) (e.0 + 1) es

-- the turns of a task's own part
abbrev pub turns : ℕ → SetTask → List (ℕ × AttemptOutcome) → List Turn
turns allowed s own = turns_after allowed (first_job s) 0 own

-- ticks from one on up to another, if there are any
abbrev pub part : Bool → Job → ℕ → ℕ → List Stretch
part over j from to = if nat_lt from to then stretch from to over j ∷ [] else []

-- the same, those that are over the period apart
abbrev pub parts : ℕ → Job → ℕ → ℕ → List Stretch
parts over_from j from to = part false j from (min to over_from) ++ part true j (max from over_from) to

-- a job's wait up to a tick, as far as a picture shows it that ends with that tick or later
abbrev pub wait : Window → ℕ → Job → ℕ → ℕ → List Stretch
wait w over_from j since to = parts over_from j (max since w.from) to

-- that for a task's turn: the tick of a wake, or of a record, up to the task's next one
abbrev pub turn_waits : Window → Turn → List Stretch
turn_waits w t = wait w t.over_from t.job t.since t.tick

-- that up to the end of a picture, of a task that is active there
abbrev pub last_wait : Window → Mode → Turn → List Stretch
last_wait w Active t = turn_waits w t
last_wait w _ t = []

-- when a task waits: it is active, and another task runs
abbrev pub waits : Window → ℕ → SetTask → List (ℕ × AttemptOutcome) → List Stretch
waits w allowed s own =
    flat_map (turn_waits w) (turns allowed s own)
    ++ last_wait w (due w.to (serving_after (first_serving s) own)).mode (turn allowed (job_after (first_job s) own) (behind 0 own) w.to)

-- a tick that is not in a stretch
abbrev pub IsOutside : ℕ → Stretch → Type 0
IsOutside t s = (t < s.from) ⊎ (s.to ≤ t)
