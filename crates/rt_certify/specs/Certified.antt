-- What a certificate says of a program.
use Rattle.std.specs.Prelude.{◌≡◌, ℕ, ◌+◌, ◌≤◌, ◌↔◌, Option, IfSome, IfNone}
use Rattle.rt_history.specs.declared.record.AttemptOutcome.TheVariants.{End}
use Rattle.rt_history.specs.Program.{Origin}
use Rattle.rt_laws.specs.Certified.{outcome_of, IsCertified}
use Rattle.rt_laws.specs.SeveralPeriods.{IsCertifiedIn}
use Rattle.rt_certify.specs.declared.certificate.Certificate.{Certificate}
use Rattle.rt_certify.specs.declared.certificate.Limits.{Limits}
use Rattle.rt_certify.specs.Opened.{opened, AreKept}

-- a period is at most this distance, where there is one
abbrev pub IsUpTo : Option ℕ → ℕ → Type 0
IsUpTo distance period = IfSome distance (λ d. period ≤ d)

-- The first k attempts of the program keep to the limits; and the next one is an end of the last of these jobs, or the job behind them is
-- open. For jobs of one period it is certified exactly with a budget from the longest job on, and with a period up to the least distance.
pub record IsCertificate (o : Origin) (start : ℕ) (l : Limits) (k : ℕ) (c : Certificate) : Type 0 where
  pub certified : IsCertifiedIn o l.periods l.budget l.period start c.jobs
  pub exact : (q p : ℕ) → IsCertified o q p start c.jobs ↔ ((c.longest ≤ q) × IsUpTo c.distance p)
  pub kept : AreKept o start l k
  pub next : IfSome c.next (λ w. ((opened o start k).number ≡ c.jobs) × ((opened o start k).release ≡ w))
  pub ended : IfNone c.next (((opened o start k).number + 1 ≡ c.jobs) × (outcome_of (opened o start k).program ≡ End))
  pub for_ever : IfNone c.next ((periods q p n : ℕ) → IsCertifiedIn o periods q p start c.jobs → IsCertifiedIn o periods q p start n)
