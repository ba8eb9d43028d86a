-- An account after a reserve.
use Rattle.std.specs.Prelude.{ℕ, Some}
use Rattle.rt_server.specs.Account.{Account}

-- the budget x is pending, in place of an earlier one
abbrev pub reserved : ℕ → Account → Account
reserved x s = record s { pending = Some x }
