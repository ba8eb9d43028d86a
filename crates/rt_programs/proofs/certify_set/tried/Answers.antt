use Rattle.rt_programs.proofs.Common.{◌≡◌, Result, Err, refl, sym, ap, subst, ◌∙◌, err_from_is_err_and, object_value, set_task, SimFault, Memory}
use Rattle.std.proofs.Common.{IfErr}
use Rattle.rt_image.specs.ObjectFile.{ObjectValue}
use Rattle.rt_programs.specs.declared.outcome.Outcome.{Outcome}
use Rattle.rt_programs.specs.CertifySet.{own_question}
use Rattle.rt_programs.specs.declared.question.Question.{Question}
use Rattle.rt_programs.specs.Working.LoneCertified.{Certifies}
use Rattle.rt_programs.proofs.CertifySetLemmas.{wants-memory}
use Rattle.rt_programs.proofs.certify_set.tried.Goals as goal

pub returns-in_err-placed-clause-memory : goal.returns-in_err-placed-clause-memory
returns-in_err-placed-clause-memory g c = λ set valid loads there.
    let t = set_task c.args.task.now in
    let e = err_from_is_err_and c.from_residual-in_err-placed.result c.from_residual-in_err-placed.ensures.1 in
    let fault = c.in_err-placed.field-0.0 in
    let asked = subst (λ (q : Question). Certifies (object_value c.in_ok-object.object) q (Err fault)) c.own_question.ensures c.in_err-placed.ensures.certifies in
    let is = subst (λ (o : ObjectValue). Certifies o (own_question c.args.jobs t) (Err fault)) c.in_ok-object.ensures asked in
    let memory = wants-memory set c.args.jobs c.args.number t fault valid loads there is in
    subst (λ (r : Result Outcome SimFault). IfErr r (λ fault. fault ≡ Memory)) (sym (e.1 ∙ ap Err (e.2 ∙ memory))) refl
