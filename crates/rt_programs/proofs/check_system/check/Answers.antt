use Rattle.rt_programs.proofs.Common.{◌≡◌, Some, refl, sym, ap, ◌∙◌, err_from_is_err_and, task_set, task_params}
use Rattle.rt_admit.specs.Refusal.{refusal}
use Rattle.rt_programs.proofs.ReasonLemmas.{told-of-a-file}
use Rattle.rt_programs.proofs.check_system.check.Goals as goal

pub returns-in_err-system : goal.returns-in_err-system
returns-in_err-system g c =
    let p = err_from_is_err_and c.from_residual.result c.from_residual.ensures.1 in
    told-of-a-file g.S.Sink.seen c.args.bytes.now c.args.out.now c.in_err-system.field-0.0 c.from_residual.result c.requires (rw (p.1, p.2) refl) c.in_err-system.ensures.exact

pub returns-in-Err : goal.returns-in-Err
returns-in-Err g c =
    let set = task_set c.in_ok-system.system in
    let fault = c.in-Err.fault in
    let tested : c.deref-2.result.now ≡ task_params set.tasks = c.deref-2.ensures.value ∙ c.in_ok-params.ensures ∙ rw c.deref.ensures.value refl in
    let told : c.deref-in-Err.result.now ≡ task_params set.tasks = c.deref-in-Err.ensures.value ∙ c.in_ok-params.ensures ∙ rw c.deref.ensures.value refl in
    let is : refusal set.hyper (task_params set.tasks) ≡ Some fault = ap (refusal set.hyper) (sym tested) ∙ c.in-Err.ensures.refused in
    let r = c.write_reason.ensures set fault refl (sym told) (ap (refusal set.hyper) told ∙ is) in
    (r.0, (set, record { valid = c.in_ok-system.ensures.found.0; bytes = c.in_ok-system.ensures.found.1 }, is, r.1), r.2)
