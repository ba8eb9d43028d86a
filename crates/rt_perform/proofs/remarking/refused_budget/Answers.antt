use Rattle.rt_perform.proofs.Common.{◌<◌, length, map, [], false, sym, subst, ◌∙◌, true≢false, arith}
use Rattle.std.proofs.lemmas.List.{get_or-map, length-map}
use Rattle.rt_set.specs.SetFile.{TaskEntry, task_entry}
use Rattle.rt_perform.specs.Performs.{IsBudget}
use Rattle.rt_perform.proofs.remarking.refused_budget.Goals as goal

pub returns-then-not-is_budget : goal.returns-then-not-is_budget
returns-then-not-is_budget c = λ all.
    let tasks = c.args.tasks.now in
    let n = c.loop-number.number in
    let e : TaskEntry = record { budget = 0; period = 0; start = 0; split = false; ram = 0; path = [] } in
    let there : n < length (map task_entry tasks) = omega (arith, length-map tasks task_entry, c.loop-number-test.true) in
    absurd (true≢false (sym (c.is_budget.ensures.1 (subst IsBudget (get_or-map task_entry tasks n _ e c.loop-number-test.true) (all n e there))) ∙ c.if-not-is_budget.true))
