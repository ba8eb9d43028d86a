-- Outcomes that were seen of a task: whether its program keeps the plan of a certificate in them, or breaks it.
use Rattle.std.specs.Prelude.{ℕ, zero, suc, ◌+◌, ◌<◌, ◌≤◌, List, [], ◌∷◌, ◌⊎◌}
use Rattle.rt_history.specs.declared.record.AttemptOutcome.{AttemptOutcome}
use Rattle.rt_history.specs.declared.record.AttemptOutcome.TheVariants.{Next, End, Write, WriteRefused, Sleep}
use Rattle.rt_laws.specs.Certified.{GoesOn}

-- each of the n jobs is finished among these outcomes, or the program ends, and the plan is kept. The open job is released at r, and has m
-- attempts.
abbrev pub KeepsSeen : ℕ → ℕ → ℕ → ℕ → ℕ → List AttemptOutcome → Type 0
KeepsSeen budget period zero r m outcomes = Unit {0}
KeepsSeen budget period (suc n) r m [] = ⊥
KeepsSeen budget period (suc n) r m (o ∷ outcomes) =
    (m + 1 ≤ budget) × GoesOn (KeepsSeen budget period (suc n) r (m + 1) outcomes)
    (λ w. (r + period ≤ w) × KeepsSeen budget period n w 0 outcomes) o

-- an outcome that breaks the plan, or one behind it does
abbrev pub Breaks : Type 0 → (ℕ → Type 0) → AttemptOutcome → Type 0
Breaks stays slept Next = stays
Breaks stays slept (Write n) = stays
Breaks stays slept WriteRefused = stays
Breaks stays slept (Sleep w) = slept w
Breaks stays slept End = ⊥
Breaks stays slept _ = Unit {0}

-- of outcomes that were seen: a job has more attempts than the budget, a sleep is too soon, or an attempt yields, asks or faults, before n
-- jobs are finished
abbrev pub BreaksSeen : ℕ → ℕ → ℕ → ℕ → ℕ → List AttemptOutcome → Type 0
BreaksSeen budget period zero r m outcomes = ⊥
BreaksSeen budget period (suc n) r m [] = budget < m + 1
BreaksSeen budget period (suc n) r m (o ∷ outcomes) =
    (budget < m + 1) ⊎ Breaks (BreaksSeen budget period (suc n) r (m + 1) outcomes)
    (λ w. (w < r + period) ⊎ BreaksSeen budget period n w 0 outcomes) o
