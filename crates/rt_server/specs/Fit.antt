-- When a current budget fits before the deadline.
use Rattle.std.specs.Prelude.{ℕ, ◌+◌, ◌≤◌}
use Rattle.rt_server.specs.Account.{Account}

-- at t the current budget can still be spent in full before the deadline
abbrev pub Fits : ℕ → Account → Type 0
Fits t s = t + s.c ≤ s.d
