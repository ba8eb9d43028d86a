use Rattle.rt_programs.proofs.Common.{◌≡◌, ◌+◌, List, Some, Result, Err, refl, sym, ap, subst, ◌∙◌, arith, length, length-map, err_from_is_err_and, Task, task_set, set_task, set_tasks, SimFault, Memory}
use Rattle.std.proofs.Common.{IfErr, get_or}
use Rattle.std.specs.Global.{Vec}
use Rattle.std.specs.Prelude.{slice_get}
use Rattle.rt_programs.specs.declared.outcome.Outcome.{Outcome}
use Rattle.rt_programs.proofs.CertifySetLemmas.{AreFirst, one-more, all-first, task-there}
use Rattle.rt_programs.proofs.certify_set.CertifiableSet.outcomes.Goals as goal

pub returns-in_err-outcome-clause-memory : goal.returns-in_err-outcome-clause-memory
returns-in_err-outcome-clause-memory g c =
    let items = c.args.self.now.system.tasks.items in
    let there : slice_get (set_tasks items) c.loop-number.number ≡ Some (set_task c.task-item.result) = task-there items c.loop-number.number c.task-item.result (omega (arith, ap (λ (ts : List Task). length ts) c.deref-task-items.ensures.value)) (c.task-item.is ∙ ap (λ (ts : List Task). get_or ts c.loop-number.number c.task-item.result) c.deref-task-items.ensures.value) in
    let e = err_from_is_err_and c.from_residual.result c.from_residual.ensures.1 in
    let memory = c.in_err-outcome.ensures.memory (task_set c.args.self.now.system) c.requires.valid c.requires.loads there in
    subst (λ (r : Result (Vec Outcome) SimFault). IfErr r (λ fault. fault ≡ Memory)) (sym (e.1 ∙ ap Err (e.2 ∙ memory))) refl

pub loop-number-preserved : goal.loop-number-preserved
loop-number-preserved g c =
    let items = c.args.self.now.system.tasks.items in
    let there : slice_get (set_tasks items) c.loop-number.number ≡ Some (set_task c.task-item.result) = task-there items c.loop-number.number c.task-item.result (omega (arith, ap (λ (ts : List Task). length ts) c.deref-task-items.ensures.value)) (c.task-item.is ∙ ap (λ (ts : List Task). get_or ts c.loop-number.number c.task-item.result) c.deref-task-items.ensures.value) in
    record {
      first =
          subst (AreFirst c.args.jobs c.args.except.now (set_tasks items) (c.loop-number.number + 1)) (sym c.in_default.ensures.items)
          (one-more c.args.jobs c.args.except.now (set_tasks items) c.loop-number.number c.loop-number.outcomes.items (set_task c.task-item.result) c.in_ok-outcome.outcome c.loop-number.invariant.first there c.in_ok-outcome.ensures.outcome);
      calm = c.noted-notes.ensures ∙ c.in_ok-outcome.ensures.calm ∙ c.loop-number.invariant.calm;
    }

pub returns-clause-outcomes : goal.returns-clause-outcomes
returns-clause-outcomes g c =
    let items = c.args.self.now.system.tasks.items in
    all-first c.args.jobs c.args.except.now (set_tasks items) c.loop-number.number c.loop-number.outcomes.items c.loop-number.invariant.first (omega (arith, ap (λ (ts : List Task). length ts) c.deref-task-items.ensures.value, length-map items set_task))
