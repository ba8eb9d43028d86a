use Rattle.std.proofs.Common.{◌≡◌, ◌≤◌, drop}
use Rattle.rt_token.specs.Number.{value_up_to}
use Rattle.rt_token.proofs.DigitLemmas.{value_after}
use Rattle.rt_token.proofs.numbers.value_up_to.Given as goal

abbrev pub invariant-loop-digit : goal.invariant-loop-digit
invariant-loop-digit l = record {
  small : l.value ≤ l.limit;
  same : value_up_to l.limit l.radix l.digits ≡ value_after l.limit l.radix l.value (drop l.digit-index l.digits);
}
