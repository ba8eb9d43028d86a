-- A task's jobs, one record of its own part after the other.
use Rattle.std.specs.Prelude.{ℕ, ◌+◌, true, ◌&&◌, if◌then◌else◌, List, [], ◌∷◌, ◌++◌}
use Rattle.rt_server.specs.Account.{Account, begun, coming}
use Rattle.rt_server.specs.Arrival.{wakes_fresh}
use Rattle.rt_image.specs.SystemFile.{SetTask}
use Rattle.rt_history.specs.declared.record.AttemptOutcome.{AttemptOutcome}
use Rattle.rt_history.specs.Serving.{Serving, first_serving, due, after}
use Rattle.rt_history.specs.Job.{Job, Release, release_by, is_calm, ends_job}
use Rattle.rt_laws.specs.OpenJob.{OpenJob}

-- a job of this release is open, the server's account being what the records before have left
abbrev pub begun_at : Account → Release → OpenJob
begun_at a r = record {
  release = r;
  ticks = 0;
  fresh = r.awaited && wakes_fresh r.tick a;
  budget = if r.awaited && wakes_fresh r.tick a then coming a else a.q;
  calm = true;
}

-- the open job after a record that doesn't finish it
abbrev pub gone_on : ℕ × AttemptOutcome → OpenJob → OpenJob
gone_on e o = record o { ticks = o.ticks + 1; calm = o.calm && is_calm e }

-- the job that is finished by a record at tick u
abbrev pub finished_at : ℕ → OpenJob → Job
finished_at u o = record { release = o.release.tick; finish = u; ticks = o.ticks; fresh = o.fresh; budget = o.budget; calm = o.calm }

-- a task's account and mode without the wakes since its last record, its open job, and its finished ones
pub record Work : Type 0 where
  pub serving : Serving
  pub open_job : OpenJob
  pub jobs : List Job

-- before the first record
abbrev pub first_work : SetTask → Work
first_work s = record {
  serving = first_serving s;
  open_job = begun_at (begun s.budget s.period) (record { tick = s.start; awaited = true });
  jobs = [];
}

-- one record more, the task standing so after it, its open job being this one with the record
abbrev pub worked_by : ℕ × AttemptOutcome → Serving → OpenJob → List Job → Work
worked_by e serving o jobs =
    if ends_job e.1 then record {
      serving = serving;
      open_job = begun_at serving.account (release_by o.release e.0 e.1);
      jobs = jobs ++ finished_at e.0 o ∷ [];
    }
    else record { serving = serving; open_job = o; jobs = jobs }

abbrev pub worked : ℕ × AttemptOutcome → Work → Work
worked e w = worked_by e (after e.0 e.1 (due e.0 w.serving).account) (gone_on e w.open_job) w.jobs

-- after these records
abbrev pub work_after : Work → List (ℕ × AttemptOutcome) → Work
work_after w [] = w
work_after w (e ∷ es) = work_after (worked e w) es
