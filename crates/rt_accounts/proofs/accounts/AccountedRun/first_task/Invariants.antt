use Rattle.rt_accounts.proofs.Common.{◌≡◌, ℕ, length, TaskSet, IsAccounted}
use Rattle.std.proofs.Common.{◌-◌}
use Rattle.std.specs.Prelude.{find}
use Rattle.std.specs.List.{range_with_len}
use Rattle.rt_accounts.specs.Failures.{counts, first_task}
use Rattle.rt_accounts.proofs.accounts.AccountedRun.first_task.Given as goal

-- the search goes on from this task
abbrev pub invariant-loop-task : goal.invariant-loop-task
invariant-loop-task l =
    (set : TaskSet) (t : ℕ) → IsAccounted set t l.self → first_task l.failing l.except set t ≡ find (counts l.failing l.except set t) (range_with_len l.task (length set.tasks - l.task))
