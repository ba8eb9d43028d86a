-- How far a program that runs alone has come on trial.
use Rattle.std.specs.Prelude.{◌≡◌, ℕ, zero, suc, ◌+◌, ◌≤◌, ◌↔◌, max, min, nat_lt, if◌then◌else◌, Bool, [], length, Option, Some, None}
use Rattle.rt_image.specs.SystemFile.{SetTask, TaskSet}
use Rattle.rt_history.specs.declared.record.AttemptOutcome.{AttemptOutcome}
use Rattle.rt_history.specs.declared.record.AttemptOutcome.TheVariants.{Next}
use Rattle.rt_history.specs.Program.{Program, Origin, origin}
use Rattle.rt_history.specs.Calls.{attempt_at}
use Rattle.rt_history.specs.OwnPart.{own, task_state}
use Rattle.rt_history.specs.Legal.{legal}
use Rattle.rt_laws.specs.Alone.{attempted}
use Rattle.rt_laws.specs.Certified.{outcome_of}
use Rattle.rt_laws.specs.SeveralPeriods.{KeepsIn, IsCertifiedIn}
use Rattle.rt_certify.specs.declared.certificate.Extremes.{Extremes}
use Rattle.rt_certify.specs.declared.certificate.JobAt.{JobAt}
use Rattle.rt_certify.specs.declared.certificate.Limits.{Limits}
use Rattle.rt_certify.specs.declared.trial.Stop.{Stop}
use Rattle.rt_certify.specs.declared.trial.Stop.TheVariants.{Ended, Refused}
use Rattle.rt_certify.specs.declared.trial.Trial.{Trial}
use Rattle.rt_certify.specs.Opened.{opened, AreKept}
use Rattle.rt_certify.specs.Certified.{IsUpTo}
use Rattle.rt_certify.specs.Extremes.{finished, is_closer, AreExtremesOf, IsPlacedCertificate}
use Rattle.rt_certify.specs.Refused.{IsRefused}

-- finished jobs, the release and the attempts of the open one, and what the finished ones took, and which
pub record Progress : Type 0 where
  pub jobs : ℕ
  pub release : ℕ
  pub ticks : ℕ
  pub longest : ℕ
  pub distance : Option ℕ
  pub extremes : Extremes

abbrev pub progress : Trial → Progress
progress t = record { jobs = t.jobs; release = t.release; ticks = t.ticks; longest = t.longest; distance = t.distance; extremes = t.extremes }

abbrev pub open_job : Progress → JobAt
open_job p = record { job = p.jobs; release = p.release }

-- which job is the longest with the open one, finished by one attempt more
abbrev pub longest_with : Progress → Option JobAt
longest_with p = if nat_lt p.longest (p.ticks + 1) then Some (open_job p) else p.extremes.longest

-- one attempt more, which finishes the open job
abbrev pub done : Progress → Progress
done p = record {
  jobs = p.jobs + 1;
  release = p.release;
  ticks = 0;
  longest = max p.longest (p.ticks + 1);
  distance = p.distance;
  extremes = record { longest = longest_with p; distance = p.extremes.distance };
}

-- the lesser distance
abbrev pub nearer : Option ℕ → ℕ → Option ℕ
nearer None d = Some d
nearer (Some e) d = Some (min e d)

-- the same by a sleep until tick w, so far from the release
abbrev pub slept : ℕ → ℕ → Progress → Progress
slept w d p = record {
  jobs = p.jobs + 1;
  release = w;
  ticks = 0;
  longest = max p.longest (p.ticks + 1);
  distance = nearer p.distance d;
  extremes = record { longest = longest_with p; distance = if is_closer p.distance d then Some (open_job p) else p.extremes.distance };
}

-- After k attempts, each of which kept to the limits, the program stands as x, with its jobs as p says. What certifies it from here on
-- certifies it from its start, and the other way.
pub record Stands (o : Origin) (start : ℕ) (l : Limits) (k : ℕ) (x : Program) (p : Progress) : Type 0 where
  pub opened : opened o start k ≡ record { number = p.jobs; release = p.release; ticks = p.ticks; program = x }
  pub kept : AreKept o start l k
  pub extremes : AreExtremesOf (finished o start k) p.longest p.distance p.extremes
  pub certified : IsCertifiedIn o l.periods l.budget l.period start p.jobs
  pub exact : (q d : ℕ) → IsCertifiedIn o 1 q d start p.jobs ↔ ((p.longest ≤ q) × IsUpTo p.distance d)
  pub forward : (periods q d j n : ℕ) → IsCertifiedIn o periods q d start p.jobs → KeepsIn periods q d j n p.release p.ticks x
      → IsCertifiedIn o periods q d start (p.jobs + n)
  pub backward : (periods q d n : ℕ) → IsCertifiedIn o periods q d start (p.jobs + suc n) → (j : ℕ) × KeepsIn periods q d j (suc n) p.release p.ticks x

-- some attempt of x came out so, and left y
abbrev pub IsTold : Program → AttemptOutcome → Program → Type 0
IsTold x outcome y = (u : ℕ) × (granted : ℕ → Bool) × ((attempt_at u granted x).outcome ≡ outcome) × ((attempt_at u granted x).program ≡ y)

-- n attempts that carry out an instruction and are no calls lead from x to y
abbrev pub ArePlainAttempts : ℕ → Program → Program → Type 0
ArePlainAttempts zero x y = x ≡ y
ArePlainAttempts (suc n) x y = (outcome_of x ≡ Next) × ArePlainAttempts n (attempted [] x) y

-- what is told where it goes no further, after k attempts that kept to the limits
abbrev pub IsStop : Origin → ℕ → Limits → ℕ → Stop → Type 0
IsStop o start l k (Ended placed) = IsPlacedCertificate o start l k placed
IsStop o start l k (Refused e) = IsRefused o start l k e

abbrev pub IsStopAt : TaskSet → SetTask → Limits → Stop → Type 0
IsStopAt set s l stop = (k : ℕ) × IsStop (origin s) s.start l k stop

-- an end of the program is told with at most so many jobs, and with none that is next
abbrev pub EndsBy : ℕ → Stop → Type 0
EndsBy jobs (Ended placed) = (placed.certificate.jobs ≤ jobs) × (placed.certificate.next ≡ None)
EndsBy jobs (Refused e) = Unit {0}

-- the program of task 0 of a set, which asks for s, stands so after the legal history of t ticks
abbrev pub StandsAt : TaskSet → SetTask → Limits → ℕ → Trial → Type 0
StandsAt set s l t trial =
    Stands (origin s) s.start l (length (own 0 (legal set t))) (task_state t (legal set t) 0 s).program (progress trial)
