-- A task of a set with a certificate for its own line: what is promised of it in this set, whatever the others do.
use Rattle.std.specs.Prelude.{◌≡◌, ℕ, ◌<◌, ◌≤◌, length, All, true, ◌⊎◌, None}
use Rattle.rt_image.specs.SystemFile.{SetTask, TaskSet}
use Rattle.rt_history.specs.Job.{response, is_hard, jobs}
use Rattle.rt_history.specs.Legal.{legal}
use Rattle.rt_history.specs.OwnPart.{own, task_state}
use Rattle.rt_history.specs.Program.{origin}
use Rattle.rt_laws.specs.Certified.{IsInTime}
use Rattle.rt_laws.specs.OpenJob.{open_job}
use Rattle.rt_laws.specs.Periodic.{first_jobs}
use Rattle.rt_certify.specs.declared.certificate.Certificate.{Certificate}
use Rattle.rt_certify.specs.declared.certificate.Limits.{Limits}
use Rattle.rt_certify.specs.Certified.{IsCertificate}

-- a job has one period
abbrev pub own_limits : SetTask → Limits
own_limits s = record { budget = s.budget; period = s.period; periods = 1 }

-- a certificate with the budget, the period, the start, the RAM and the split of the task's line
abbrev pub HasCertificate : SetTask → Certificate → Type 0
HasCertificate s c = (attempts : ℕ) × IsCertificate (origin s) s.start (own_limits s) attempts c

-- at each tick the first n jobs of task i that are finished are hard, and answered within the period; and fewer are finished only where the
-- open one is less than a period old, or the task has ended
abbrev pub AreInTime : TaskSet → ℕ → SetTask → ℕ → Type 0
AreInTime set i s n =
    (t : ℕ) → All (λ j. (is_hard j ≡ true) × (response j ≤ s.period)) (first_jobs n set t i s)
    × (length (jobs s (own i (legal set t))) < n → IsInTime s.period t (open_job s (own i (legal set t))).release.tick (task_state t (legal set t) i s).serving.mode)

-- the jobs that a certificate counts; all there will be where it says that the program ends
abbrev pub Counts : Certificate → ℕ → Type 0
Counts c n = (n ≤ c.jobs) ⊎ (c.next ≡ None)
