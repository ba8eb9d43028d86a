use Rattle.rt_admit.proofs.RefusalLemmas.{admitted-none, refusal-admitted}
use Rattle.rt_admit.proofs.laws.admitted_iff_not_refused.Goals as goal

pub returns : goal.returns
returns c = λ hyper set. (refusal-admitted hyper set, admitted-none hyper set)
