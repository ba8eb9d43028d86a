-- The postponement, and an account after an executed tick.
use Rattle.std.specs.Prelude.{ℕ, zero, suc, Bool, ◌+◌, ◌-◌, ◌==◌, nat_le, if◌then◌else◌}
use Rattle.rt_server.specs.Account.{Account}

-- the postponement (Abeni and Buttazzo 1998): a current budget of 0 is filled to the budget and the
-- deadline moves one period on, once
abbrev pub recharged : Account → Account
recharged s = if s.c == 0 then record s { c = s.q; d = s.d + s.p } else s

-- after a tick that executes without a yield: one tick less to spend
abbrev pub spent : Account → Account
spent s = recharged (record s { c = s.c - 1 })

-- whether such a tick uses the current budget up, so that the deadline moves
abbrev pub uses_up : Account → Bool
uses_up s = nat_le s.c 1

-- after n ticks that execute without a yield
unfoldable pub spent_for : ℕ → Account → Account
spent_for zero s = s
spent_for (suc n) s = spent (spent_for n s)

-- how many of these n ticks use the current budget up
unfoldable pub used_up_for : ℕ → Account → ℕ
used_up_for zero s = 0
used_up_for (suc n) s = used_up_for n s + (if uses_up (spent_for n s) then 1 else 0)

-- after a tick that yields: the rest of the current budget is given up
abbrev pub yielded : Account → Account
yielded s = recharged (record s { c = 0 })
