use Rattle.rt_perform.proofs.Common.{◌≡◌, List, None, Result, Ok, Err, sym, subst}
use Rattle.std.proofs.Common.{All, IfOk}
use Rattle.rt_set.specs.declared.set.TaskLine.{TaskLine}
use Rattle.rt_set.specs.SetFile.{set_entries, task_entries}
use Rattle.rt_perform.specs.Performs.{IsBudget}
use Rattle.rt_perform.proofs.remarking.remark_pack.Goals as goal

-- what holds of all holds of a result
of_all : {X E : Type 0} (P : X → Type 0) (r : Result X E) → ((x : X) → P x) → IfOk r P
of_all P (Ok x) all = all x
of_all P (Err e) all = tt

pub returns-in-Some : goal.returns-in-Some
returns-in-Some c = of_all _ c.line.result (λ lines fit.
    let all : All IsBudget (task_entries c.deref.result.now) = subst (λ (ts : List TaskLine). All IsBudget (task_entries ts)) (sym c.deref.ensures.value) (fit (set_entries c.in-Ok.set) c.in-Ok.ensures.found) in
    let none : c.refused_budget.result ≡ None = c.refused_budget.ensures all in
    absurd cc)
