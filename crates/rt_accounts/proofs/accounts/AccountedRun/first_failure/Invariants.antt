use Rattle.rt_accounts.proofs.Common.{◌≡◌, ℕ, TaskSet, IsAccounted}
use Rattle.std.proofs.Common.{drop}
use Rattle.rt_accounts.specs.Failures.{first_failure}
use Rattle.rt_accounts.proofs.accounts.AccountedRun.first_failure.Given as goal

-- the search goes on with this failure
abbrev pub invariant-loop-failing : goal.invariant-loop-failing
invariant-loop-failing l = (set : TaskSet) (t : ℕ) → IsAccounted set t l.self → first_failure l.asked l.except set t ≡ first_failure (drop l.failing-index l.asked) l.except set t
