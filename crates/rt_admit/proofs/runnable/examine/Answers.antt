use Rattle.std.proofs.Common.{sym, ◌∙◌, arith}
use Rattle.std.proofs.lemmas.Bool.Decides.{nat_tests}
use Rattle.rt_admit.proofs.RefusalLemmas.{eligible-none}
use Rattle.rt_admit.proofs.runnable.examine.Goals as goal

pub weight_sum-total-requires-clause-eligible : goal.weight_sum-total-requires-clause-eligible
weight_sum-total-requires-clause-eligible c =
    eligible-none c.args.hyper c.args.params.now (sym c.first_without_budget.ensures.value ∙ c.in_default.is)
    (sym c.first_over_period.ensures.value ∙ c.in_default-first_over_period.is)
    (sym c.first_non_divisor.ensures.value ∙ c.in_default-first_non_divisor.is)

pub invariant_of-result : goal.invariant_of-result
invariant_of-result c = record {
  runnable = record {
    nonempty = grind (arith, nat_tests);
    few = omega arith;
    hyper_positive = omega arith;
    hyper_bounded = omega arith;
    eligible =
        eligible-none c.args.hyper c.args.params.now (sym c.first_without_budget.ensures.value ∙ c.in_default.is)
        (sym c.first_over_period.ensures.value ∙ c.in_default-first_over_period.is)
        (sym c.first_non_divisor.ensures.value ∙ c.in_default-first_non_divisor.is);
  };
  summed = c.weight_sum-total.ensures;
}
