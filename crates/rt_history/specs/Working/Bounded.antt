-- What the numbers of an account at tick t are bounded by, so that the code's sums don't wrap, and what a server can take.
use Rattle.std.specs.Prelude.{ℕ, ◌+◌, ◌*◌, ◌≤◌, nat_le, Bool, true, ◌&&◌, if◌then◌else◌}
use Rattle.rt_admit.specs.Limits.{hyper_limit}
use Rattle.rt_server.specs.Account.{Account, coming}
use Rattle.rt_history.specs.declared.record.AttemptOutcome.{AttemptOutcome}
use Rattle.rt_history.specs.declared.record.AttemptOutcome.TheVariants.{Reserve, ReserveRefused}

-- budgets and period are within their limits, and the deadline is at most a period past the next tick's own
pub record IsBounded (t : ℕ) (a : Account) : Type 0 where
  pub positive : 1 ≤ a.q
  pub within : a.q ≤ a.p
  pub comes : 1 ≤ coming a
  pub comes_within : coming a ≤ a.p
  pub period : a.p ≤ hyper_limit
  pub deadline : a.d ≤ a.p * (t + 1)

-- a server of this account can take the record: the budget of a reserve is 1 to the period
abbrev pub IsTakeable : AttemptOutcome → Account → Type 0
IsTakeable (Reserve x) a = (1 ≤ x) × (x ≤ a.p)
IsTakeable _ a = Unit {0}

-- whether a server of this account can take the record: the budget of a reserve is 1 to the period
abbrev pub is_takeable : AttemptOutcome → Account → Bool
is_takeable (Reserve q) a = nat_le 1 q && nat_le q a.p
is_takeable _ a = true

-- The record as the server takes it: a reserve that it can't take counts as refused. No legal history has one.
abbrev pub taken : AttemptOutcome → Account → AttemptOutcome
taken o a = if is_takeable o a then o else ReserveRefused
