use Rattle.rt_programs.proofs.Common.{◌≡◌, Some, refl, sym, ap, subst, ◌∙◌, err_from_is_err_and, task_set, task_params}
use Rattle.rt_admit.specs.Refusal.{refusal}
use Rattle.rt_admit.specs.Admission.{IsAdmitted}
use Rattle.rt_programs.proofs.CertifySetLemmas.{set-unread, set-unloaded}
use Rattle.rt_programs.proofs.certify_set.CertifiableSet.open.Goals as goal

pub returns-in_err-system-clause-refused : goal.returns-in_err-system-clause-refused
returns-in_err-system-clause-refused g c =
    let e = err_from_is_err_and c.from_residual.result c.from_residual.ensures.1 in
    set-unread g.S.Sink.seen c.args.bytes.now c.args.out.now c.requires c.in_err-system.field-0.0 c.from_residual.result (rw (e.1, e.2) refl) c.in_err-system.ensures.exact

pub returns-in-Err-clause-refused : goal.returns-in-Err-clause-refused
returns-in-Err-clause-refused g c = λ n words.
    let set = task_set c.in_ok-system.system in
    let fault = c.in-Err.fault in
    let tested : c.deref-2.result.now ≡ task_params set.tasks = c.deref-2.ensures.value ∙ c.in_ok-params.ensures ∙ rw c.deref.ensures.value refl in
    let told : c.deref-in-Err.result.now ≡ task_params set.tasks = c.deref-in-Err.ensures.value ∙ c.in_ok-params.ensures ∙ rw c.deref.ensures.value refl in
    let is : refusal set.hyper (task_params set.tasks) ≡ Some fault = ap (refusal set.hyper) (sym tested) ∙ c.in-Err.ensures.refused in
    let r = c.write_reason.ensures set fault refl (sym told) (ap (refusal set.hyper) told ∙ is) in
    (r.0, (set, record { valid = c.in_ok-system.ensures.found.0; bytes = c.in_ok-system.ensures.found.1 }, is, r.1), r.2)

pub returns-in_err-try_load-clause-refused : goal.returns-in_err-try_load-clause-refused
returns-in_err-try_load-clause-refused g c =
    let set = task_set c.in_ok-system.system in
    let tested : c.deref-2.result.now ≡ task_params set.tasks = c.deref-2.ensures.value ∙ c.in_ok-params.ensures ∙ rw c.deref.ensures.value refl in
    let e = err_from_is_err_and c.from_residual-in_err-try_load.result c.from_residual-in_err-try_load.ensures.1 in
    set-unloaded g.S.Sink.seen c.args.bytes.now c.args.out.now c.requires set c.in_err-try_load.field-0.0 c.from_residual-in_err-try_load.result (rw (e.1, e.2) refl)
    (record { valid = c.in_ok-system.ensures.found.0; bytes = c.in_ok-system.ensures.found.1 })
    (subst (IsAdmitted set.hyper) tested (c.in_default.ensures.admitted.0 refl)) (ap (refusal set.hyper) (sym tested) ∙ c.in_default.ensures.refused) c.in_err-try_load.ensures.some
