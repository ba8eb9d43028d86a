-- The arrival rule: an account after a wake.
use Rattle.std.specs.Prelude.{ℕ, Bool, ◌+◌, ◌*◌, nat_le, if◌then◌else◌, None}
use Rattle.rt_server.specs.Account.{Account, coming}

-- the arrival test at t, c * P >= (d - t) * Q over whole numbers with sign, with the subtraction
-- moved to the other side so that it holds over natural numbers; equality is a fresh arrival
abbrev pub wakes_fresh : ℕ → Account → Bool
wakes_fresh t s = nat_le (s.d * s.q) (s.c * s.p + t * s.q)

-- a fresh arrival at t that takes the budget x: x ticks to spend, the deadline one period ahead,
-- and nothing pending
abbrev pub refreshed : ℕ → ℕ → Account → Account
refreshed x t s = record s { q = x; c = x; d = t + s.p; pending = None }

-- the arrival rule of Abeni and Buttazzo 1998 for a wake at t, tested with the present budget: a
-- fresh arrival takes the coming one; where the test fails, the account is kept
abbrev pub woken : ℕ → Account → Account
woken t s = if wakes_fresh t s then refreshed (coming s) t s else s
