-- A program that runs alone and asks for nothing: whether it keeps to a budget and a period.
use Rattle.std.specs.Prelude.{◌≡◌, ℕ, zero, suc, ◌+◌, ◌<◌, ◌≤◌, false, [], ◌⊎◌}
use Rattle.rt_history.specs.declared.mode.Mode.{Mode}
use Rattle.rt_history.specs.declared.mode.Mode.TheVariants.{Ended}
use Rattle.rt_history.specs.declared.record.AttemptOutcome.{AttemptOutcome}
use Rattle.rt_history.specs.declared.record.AttemptOutcome.TheVariants.{Next, End, Write, WriteRefused, Sleep}
use Rattle.rt_history.specs.Program.{Program, Origin, loaded}
use Rattle.rt_history.specs.Calls.{attempt_at}
use Rattle.rt_laws.specs.Alone.{attempted}

-- how its next attempt comes out where it is told nothing
abbrev pub outcome_of : Program → AttemptOutcome
outcome_of p = (attempt_at 0 (λ q. false) p).outcome

-- An attempt that leaves its job open, or a sleep, goes on; an end is the last. A yield, a fault and a call for an answer break the plan.
abbrev pub GoesOn : Type 0 → (ℕ → Type 0) → AttemptOutcome → Type 0
GoesOn stays slept Next = stays
GoesOn stays slept (Write n) = stays
GoesOn stays slept WriteRefused = stays
GoesOn stays slept (Sleep w) = slept w
GoesOn stays slept End = Unit {0}
GoesOn stays slept _ = ⊥

-- From here on, within k attempts, it finishes n jobs or ends, each job with at most so many attempts as the budget, and each sleep until
-- a period or more after the release of its job. The open job is released at r, and has m attempts.
abbrev pub Keeps : ℕ → ℕ → ℕ → ℕ → ℕ → ℕ → Program → Type 0
Keeps budget period k zero r m p = Unit {0}
Keeps budget period zero (suc n) r m p = ⊥
Keeps budget period (suc k) (suc n) r m p =
    (m + 1 ≤ budget) × GoesOn (Keeps budget period k (suc n) r (m + 1) (attempted [] p))
    (λ w. (r + period ≤ w) × Keeps budget period k n w 0 (attempted [] p)) (outcome_of p)

-- the program of this image is certified for n jobs with this budget, period and start tick
abbrev pub IsCertified : Origin → ℕ → ℕ → ℕ → ℕ → Type 0
IsCertified o budget period start n = (k : ℕ) × Keeps budget period k n start 0 (loaded o)

-- at tick t a task in this mode, whose open job is released at r, has ended, or the job is less than a period old
abbrev pub IsInTime : ℕ → ℕ → ℕ → Mode → Type 0
IsInTime period t r mode = (mode ≡ Ended) ⊎ (t < r + period)
