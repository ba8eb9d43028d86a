-- The budget of a task's server at a tick: a reserve changes it at a fresh wake.
use Rattle.std.specs.Prelude.{ℕ, nat_le, nat_lt, if◌then◌else◌, Option, None, Some, List, [], ◌∷◌, take_while}
use Rattle.rt_image.specs.SystemFile.{SetTask}
use Rattle.rt_history.specs.declared.record.AttemptOutcome.{AttemptOutcome}
use Rattle.rt_history.specs.Serving.{Serving, first_serving, due, after}
use Rattle.rt_history.specs.OwnPart.{serving_after}

-- the records before a tick; those of an own part rise
abbrev pub before : ℕ → List (ℕ × AttemptOutcome) → List (ℕ × AttemptOutcome)
before t own = take_while (λ e. nat_lt e.0 t) own

-- how a task's server stands at a tick, with the wakes of that tick
abbrev pub serving_at : ℕ → SetTask → List (ℕ × AttemptOutcome) → Serving
serving_at t s own = due t (serving_after (first_serving s) (before t own))

abbrev pub budget_at : ℕ → SetTask → List (ℕ × AttemptOutcome) → ℕ
budget_at t s own = (serving_at t s own).account.q

-- the same as far as these records tell it: one of them is of the tick or a later one, the server standing so before the first
abbrev pub told_budget : ℕ → Serving → List (ℕ × AttemptOutcome) → Option ℕ
told_budget t s [] = None
told_budget t s (e ∷ es) = if nat_le t e.0 then Some (due t s).account.q else told_budget t (after e.0 e.1 (due e.0 s).account) es
