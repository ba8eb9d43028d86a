use Rattle.rt_admit.proofs.RefusalLemmas.{misfit-refused}
use Rattle.rt_admit.proofs.admission.admit.Goals as goal

pub returns-in_err-set-clause-admitted : goal.returns-in_err-set-clause-admitted
returns-in_err-set-clause-admitted c =
    misfit-refused c.args.hyper c.args.params.now c.in_err-set.field-0.0 c.from_residual.result c.in_err-set.ensures.refused c.from_residual.ensures.0
