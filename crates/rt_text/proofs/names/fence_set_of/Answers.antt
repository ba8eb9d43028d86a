use Rattle.rt_text.proofs.Common.{◌≡◌, sym, ◌∙◌, Some, value_of, fence_sets}
use Rattle.rt_text.proofs.NameLemmas.{fence_set_small, some_of}
use Rattle.rt_text.proofs.names.fence_set_of.Goals as goal

pub returns-in_err-value_of : goal.returns-in_err-value_of
unfolding fence_sets
returns-in_err-value_of c = c.from_residual.ensures ∙ sym c.in_err-value_of.was ∙ c.value_of.ensures

pub returns : goal.returns
unfolding fence_sets
returns c =
    let found : value_of fence_sets c.args.name.now ≡ Some c.in_ok-value_of.field-0 = sym c.value_of.ensures ∙ c.in_ok-value_of.was in
    some_of c.new.result c.in_ok-value_of.field-0 (c.new.ensures.valid.1 (fence_set_small c.args.name.now c.in_ok-value_of.field-0 found)) c.new.ensures.value ∙ sym found
