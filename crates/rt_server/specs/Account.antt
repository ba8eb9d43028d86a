-- The account of one server, as contracts see it.
use Rattle.std.specs.Prelude.{ℕ, Option, None, unwrap_or}

-- a server's account, in ticks (Abeni and Buttazzo 1998): the budget Q and the period P that were
-- granted, the current budget c, which is what is left to spend, the deadline d, and the budget that
-- was reserved and hasn't taken effect
pub record Account : Type 0 where
  pub q : ℕ
  pub p : ℕ
  pub c : ℕ
  pub d : ℕ
  pub pending : Option ℕ

-- the account of a server that has not been woken yet: nothing to spend, deadline 0
abbrev pub begun : ℕ → ℕ → Account
begun q p = record { q = q; p = p; c = 0; d = 0; pending = None }

-- the budget that the next fresh arrival takes
abbrev pub coming : Account → ℕ
coming s = unwrap_or s.pending s.q
