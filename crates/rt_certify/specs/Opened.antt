-- The open job of a program that runs alone and is told nothing, and whether its next attempt keeps to the limits.
use Rattle.std.specs.Prelude.{ℕ, zero, suc, ◌+◌, ◌*◌, ◌<◌, ◌≤◌, []}
use Rattle.rt_history.specs.declared.record.AttemptOutcome.{AttemptOutcome}
use Rattle.rt_history.specs.declared.record.AttemptOutcome.TheVariants.{Next, Write, WriteRefused, Sleep}
use Rattle.rt_history.specs.Program.{Program, Origin, loaded}
use Rattle.rt_laws.specs.Alone.{attempted}
use Rattle.rt_laws.specs.Certified.{outcome_of}
use Rattle.rt_laws.specs.SeveralPeriods.{MaySleep}
use Rattle.rt_certify.specs.declared.certificate.Limits.{Limits}

-- its number from 0, the tick of its release, how many attempts it has, and the program
pub record Opened : Type 0 where
  pub number : ℕ
  pub release : ℕ
  pub ticks : ℕ
  pub program : Program

-- a sleep finishes it, and releases the next one at the tick that it names; any other attempt is one more of it
abbrev pub opened_by : Opened → AttemptOutcome → Opened
opened_by a (Sleep w) = record { number = a.number + 1; release = w; ticks = 0; program = attempted [] a.program }
opened_by a _ = record { number = a.number; release = a.release; ticks = a.ticks + 1; program = attempted [] a.program }

-- the open job of the program of this origin, which starts at this tick, after k attempts
abbrev pub opened : Origin → ℕ → ℕ → Opened
opened o start zero = record { number = 0; release = start; ticks = 0; program = loaded o }
opened o start (suc k) = opened_by (opened o start k) (outcome_of (opened o start k).program)

-- the program goes on behind such an attempt, without an answer
abbrev pub GoesPast : (ℕ → Type 0) → AttemptOutcome → Type 0
GoesPast slept Next = Unit {0}
GoesPast slept (Write n) = Unit {0}
GoesPast slept WriteRefused = Unit {0}
GoesPast slept (Sleep w) = slept w
GoesPast slept _ = ⊥

-- the most ticks of a job
abbrev pub most_ticks : Limits → ℕ
most_ticks l = l.periods * l.budget

-- the next attempt is within the budgets, and is no sleep that is too soon; the program goes on behind it
abbrev pub IsKept : Limits → Opened → Type 0
IsKept l a = (a.ticks + 1 ≤ most_ticks l) × GoesPast (MaySleep l.budget l.period a.release (a.ticks + 1)) (outcome_of a.program)

-- each of the first k attempts is so
abbrev pub AreKept : Origin → ℕ → Limits → ℕ → Type 0
AreKept o start l k = (i : ℕ) → i < k → IsKept l (opened o start i)
