use Rattle.rt_admit.specs.Weight.{total_weight}
use Rattle.rt_admit.proofs.RefusalLemmas.{overload-refused, refusal-overloaded}
use Rattle.rt_admit.proofs.laws.overload_is_else_admitted.Goals as goal

pub returns-clause-refused : goal.returns-clause-refused
returns-clause-refused c = λ hyper set. (
  λ refused. (overload-refused hyper (total_weight hyper set) hyper set refused).0,
  refusal-overloaded hyper set,
)

pub returns-clause-numbers : goal.returns-clause-numbers
returns-clause-numbers c = λ hyper total whole set refused.
    let found = overload-refused hyper total whole set refused in
    (found.1, found.2)
