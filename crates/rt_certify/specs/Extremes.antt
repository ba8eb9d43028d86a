-- The jobs that have a certificate's numbers: of those that a program finishes alone, the first with the most ticks, and the first with the
-- least distance from its release to the tick until which it slept.
use Rattle.std.specs.Prelude.{◌≡◌, ℕ, zero, suc, ◌+◌, ◌-◌, ◌++◌, nat_lt, if◌then◌else◌, Bool, true, List, [], ◌∷◌, Option, Some, None}
use Rattle.std.specs.List.{fold}
use Rattle.std.specs.Option.{option_map, option_map_or}
use Rattle.rt_history.specs.declared.record.AttemptOutcome.{AttemptOutcome}
use Rattle.rt_history.specs.declared.record.AttemptOutcome.TheVariants.{Sleep, End}
use Rattle.rt_history.specs.Program.{Origin}
use Rattle.rt_laws.specs.Certified.{outcome_of}
use Rattle.rt_certify.specs.declared.certificate.Certificate.{Certificate}
use Rattle.rt_certify.specs.declared.certificate.Extremes.{Extremes}
use Rattle.rt_certify.specs.declared.certificate.JobAt.{JobAt}
use Rattle.rt_certify.specs.declared.certificate.Limits.{Limits}
use Rattle.rt_certify.specs.declared.certificate.PlacedCertificate.{PlacedCertificate}
use Rattle.rt_certify.specs.Opened.{Opened, opened}
use Rattle.rt_certify.specs.Certified.{IsCertificate}

-- its number from 0, the tick of its release, how many attempts it had, and, where a sleep finished it, how far behind its release it slept
pub record FinishedJob : Type 0 where
  pub number : ℕ
  pub release : ℕ
  pub ticks : ℕ
  pub distance : Option ℕ

-- a sleep and an end finish the open job
abbrev pub finished_by : Opened → AttemptOutcome → List FinishedJob
finished_by a (Sleep w) = record { number = a.number; release = a.release; ticks = a.ticks + 1; distance = Some (w - a.release) } ∷ []
finished_by a End = record { number = a.number; release = a.release; ticks = a.ticks + 1; distance = None } ∷ []
finished_by a _ = []

-- what the first k attempts of the program of this origin finish, which starts at this tick
abbrev pub finished : Origin → ℕ → ℕ → List FinishedJob
finished o start zero = []
finished o start (suc k) = finished o start k ++ finished_by (opened o start k) (outcome_of (opened o start k).program)

-- a job takes the place of the first one so far if it has more ticks
abbrev pub ticks_of : Option FinishedJob → ℕ
ticks_of first = option_map_or (λ j. j.ticks) first 0

abbrev pub longer : Option FinishedJob → FinishedJob → Option FinishedJob
longer first j = if nat_lt (ticks_of first) j.ticks then Some j else first

abbrev pub first_longest : List FinishedJob → Option FinishedJob
first_longest js = fold longer None js

-- or if it has a lesser distance
abbrev pub distance_of : Option FinishedJob → Option ℕ
distance_of None = None
distance_of (Some j) = j.distance

abbrev pub is_closer : Option ℕ → ℕ → Bool
is_closer None d = true
is_closer (Some least) d = nat_lt d least

abbrev pub closer : Option FinishedJob → FinishedJob → Option FinishedJob
closer first j = option_map_or (λ d. if is_closer (distance_of first) d then Some j else first) j.distance first

abbrev pub first_closest : List FinishedJob → Option FinishedJob
first_closest js = fold closer None js

abbrev pub job_at : FinishedJob → JobAt
job_at j = record { job = j.number; release = j.release }

-- the most ticks of one of these jobs, their least distance, and the first jobs that have them
pub record AreExtremesOf (js : List FinishedJob) (most : ℕ) (least : Option ℕ) (e : Extremes) : Type 0 where
  pub ticks : ticks_of (first_longest js) ≡ most
  pub near : distance_of (first_closest js) ≡ least
  pub longest : option_map job_at (first_longest js) ≡ e.longest
  pub distance : option_map job_at (first_closest js) ≡ e.distance

-- the jobs that a certificate counts: what k attempts finish, and one attempt more where it is the program's end
abbrev pub counted : Origin → ℕ → ℕ → Option ℕ → List FinishedJob
counted o start k (Some next) = finished o start k
counted o start k None = finished o start (suc k)

abbrev pub AreExtremes : Origin → ℕ → ℕ → Certificate → Extremes → Type 0
AreExtremes o start k c e = AreExtremesOf (counted o start k c.next) c.longest c.distance e

-- a certificate after k attempts, with the jobs that have its most ticks and its least distance
abbrev pub IsPlacedCertificate : Origin → ℕ → Limits → ℕ → PlacedCertificate → Type 0
IsPlacedCertificate o start l k placed = IsCertificate o start l k placed.certificate × AreExtremes o start k placed.certificate placed.extremes
