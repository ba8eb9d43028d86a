-- Which failures happen in a run, of those that it is asked for.
use Rattle.std.specs.Prelude.{ℕ, nat_lt, ◌==◌, ◌&&◌, not, Bool, List, [], ◌∷◌, length, find, Option, Some, None}
use Rattle.std.specs.List.{range_with_len, list_any}
use Rattle.std.specs.Option.{option_map_or}
use Rattle.rt_image.specs.SystemFile.{TaskSet}
use Rattle.rt_history.specs.Legal.{legal}
use Rattle.rt_report.specs.Failures.{has_failed}
use Rattle.rt_report.specs.declared.failing.Failing.{Failing}
use Rattle.rt_accounts.specs.declared.accounts.Failure.{Failure}

-- this happened to task i in the t ticks of the legal history
abbrev pub has_happened : Failing → TaskSet → ℕ → ℕ → Bool
has_happened failing set t i = has_failed failing set t (legal set t) i

-- and to a task of the set
abbrev pub happened : Failure → TaskSet → ℕ → Bool
happened f set t = nat_lt f.task (length set.tasks) && has_happened f.failing set t f.task

-- and to task i, which none of these excepts
abbrev pub counts : Failing → List ℕ → TaskSet → ℕ → ℕ → Bool
counts failing except set t i = not (list_any (λ k. k == i) except) && has_happened failing set t i

-- the least task to which it did, of those that aren't excepted
abbrev pub first_task : Failing → List ℕ → TaskSet → ℕ → Option ℕ
first_task failing except set t = find (counts failing except set t) (range_with_len 0 (length set.tasks))

abbrev pub failure : Failing → ℕ → Option Failure
failure failing i = Some (record { failing = failing; task = i })

-- of the first of a list that happened, that of the least task
abbrev pub first_failure : List Failing → List ℕ → TaskSet → ℕ → Option Failure
first_failure [] except set t = None
first_failure (failing ∷ others) except set t =
    option_map_or (failure failing) (first_task failing except set t) (first_failure others except set t)
