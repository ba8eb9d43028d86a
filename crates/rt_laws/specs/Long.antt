-- Jobs longer than the budget: a program that runs alone with a server of its own, and the deadline of each of its attempts.
use Rattle.std.specs.Prelude.{ℕ, zero, suc, ◌+◌, ◌*◌, ◌<◌, ◌≤◌, List, [], ◌∷◌, None}
use Rattle.rt_server.specs.Account.{Account}
use Rattle.rt_server.specs.Recharge.{spent}
use Rattle.rt_history.specs.declared.record.AttemptOutcome.{AttemptOutcome}
use Rattle.rt_history.specs.Program.{Program}
use Rattle.rt_history.specs.Job.{Job, response}
use Rattle.rt_laws.specs.Alone.{attempted}
use Rattle.rt_laws.specs.Certified.{outcome_of, GoesOn}

-- the account of a server that has just woken at tick r
abbrev pub granted_at : ℕ → ℕ → ℕ → Account
granted_at budget period r = record { q = budget; p = period; c = budget; d = r + period; pending = None }

-- From here on, within k attempts, the program finishes n jobs or ends; none of its attempts asks, yields or faults; each is paid from
-- this account, and each sleep is until the account's deadline or later, where the server wakes afresh.
abbrev pub KeepsLong : ℕ → ℕ → Account → Program → Type 0
KeepsLong k zero a p = Unit {0}
KeepsLong zero (suc n) a p = ⊥
KeepsLong (suc k) (suc n) a p =
    GoesOn (KeepsLong k (suc n) (spent a) (attempted [] p))
    (λ w. (a.d ≤ w) × KeepsLong k n (granted_at a.q a.p w) (attempted [] p)) (outcome_of p)

-- in a history of t ticks, these records of the first n jobs are made before their deadlines, and the deadline of the next is to come
abbrev pub AreOnTime : ℕ → ℕ → Account → List (ℕ × AttemptOutcome) → Type 0
AreOnTime t zero a es = Unit {0}
AreOnTime t (suc n) a [] = t < a.d
AreOnTime t (suc n) a (e ∷ es) =
    (e.0 < a.d) × GoesOn (AreOnTime t (suc n) (spent a) es) (λ w. AreOnTime t n (granted_at a.q a.p w) es) e.1

-- a job is answered within k periods, where k budgets have as many ticks as it; so within the least k
abbrev pub IsWithin : ℕ → ℕ → Job → Type 0
IsWithin budget period j = (k : ℕ) → j.ticks ≤ k * budget → response j ≤ k * period
