-- The first server whose unspent budget doesn't fit before its deadline.
use Rattle.std.specs.Prelude.{◌≡◌, ℕ, ◌+◌, ◌<◌, List, slice_get, Some}
use Rattle.rt_server.specs.Account.{Account}
use Rattle.rt_server.specs.Fit.{Fits}
use Rattle.rt_laws.specs.declared.breach.exceeding.Breach.{Breach}

-- server b.task has this current budget and this deadline, which don't fit at tick t; each one before it fits
pub record IsFirstExceeding (t : ℕ) (accounts : List Account) (b : Breach) : Type 0 where
  pub account : Account
  pub there : slice_get accounts b.task ≡ Some account
  pub c : b.c ≡ account.c
  pub d : b.d ≡ account.d
  pub exceeds : b.d < t + b.c
  pub first : (i : ℕ) (a : Account) → i < b.task → slice_get accounts i ≡ Some a → Fits t a
