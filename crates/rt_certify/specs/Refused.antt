-- Why a program isn't certified.
use Rattle.std.specs.Prelude.{◌≡◌, ℕ, ◌+◌, ◌*◌, ◌<◌, ◌≤◌, nat_lt, if◌then◌else◌, true, Option, Some, None}
use Rattle.rt_history.specs.declared.record.AttemptOutcome.TheVariants as outcomes
use Rattle.rt_history.specs.Program.{Origin}
use Rattle.rt_laws.specs.Alone.{asks}
use Rattle.rt_laws.specs.Certified.{outcome_of}
use Rattle.rt_laws.specs.SeveralPeriods.{IsCertifiedIn}
use Rattle.rt_certify.specs.declared.certificate.Limits.{Limits}
use Rattle.rt_certify.specs.declared.certificate.NotCertified.{NotCertified}
use Rattle.rt_certify.specs.declared.certificate.Reason.{Reason}
use Rattle.rt_certify.specs.declared.certificate.Reason.TheVariants.{OverBudget, Yields, Asks, Faults, TooSoon}
use Rattle.rt_certify.specs.Opened.{Opened, opened, most_ticks, AreKept}

-- k is the least number of budgets that have m ticks
abbrev pub Takes : ℕ → ℕ → ℕ → Type 0
Takes budget m k = (m ≤ k * budget) × ((j : ℕ) → m ≤ j * budget → k ≤ j)

-- how many periods a job has, reported where jobs may have several
abbrev pub reported_periods : Limits → ℕ → Option ℕ
reported_periods l k = if nat_lt 1 l.periods then Some k else None

-- a job of m ticks, released at r, sleeps until tick w: fewer periods after r than it takes budgets
abbrev pub IsTooSoon : Limits → ℕ → ℕ → ℕ → Option ℕ → Type 0
IsTooSoon l r m w periods = (k : ℕ) × Takes l.budget m k × (w < r + k * l.period) × (periods ≡ reported_periods l k)

-- what is wrong with the next attempt of a program whose open job is this; the budget is tested before the attempt
abbrev pub Breaks : Limits → Opened → Reason → Type 0
Breaks l a (OverBudget release ticks) = (a.ticks ≡ most_ticks l) × (release ≡ a.release) × (ticks ≡ a.ticks + 1)
Breaks l a Yields = (a.ticks < most_ticks l) × (outcome_of a.program ≡ outcomes.Yield)
Breaks l a Asks = (a.ticks < most_ticks l) × (asks a.program ≡ true)
Breaks l a (Faults fault) = (a.ticks < most_ticks l) × (outcome_of a.program ≡ outcomes.Fault fault)
Breaks l a (TooSoon release sleep periods) =
    (a.ticks < most_ticks l) × (release ≡ a.release) × (outcome_of a.program ≡ outcomes.Sleep sleep)
    × IsTooSoon l a.release (a.ticks + 1) sleep periods

-- Attempt k, from 0, is the first that breaks the limits, and this is told of it. The program is certified for the jobs that it finished,
-- and not for the one that was open.
pub record IsRefused (o : Origin) (start : ℕ) (l : Limits) (k : ℕ) (e : NotCertified) : Type 0 where
  pub before : IsCertifiedIn o l.periods l.budget l.period start e.job
  pub not : IsCertifiedIn o l.periods l.budget l.period start (e.job + 1) → ⊥
  pub kept : AreKept o start l k
  pub job : (opened o start k).number ≡ e.job
  pub pc : (opened o start k).program.state.pc ≡ e.pc
  pub breaks : Breaks l (opened o start k) e.reason
