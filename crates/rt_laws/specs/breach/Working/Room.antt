-- What a server needs to run for some ticks, so that the code's sums don't wrap.
use Rattle.std.specs.Prelude.{ℕ, ◌+◌, ◌*◌, ◌^◌, ◌<◌, ◌≤◌}
use Rattle.rt_server.specs.Account.{Account}

-- granted a budget, with some of it left, and with a deadline that can move at each of these ticks
pub record HasRoom (ticks : ℕ) (a : Account) : Type 0 where
  pub asked : 1 ≤ a.q
  pub some : 1 ≤ a.c
  pub room : a.d + a.p * ticks < 2 ^ 64
