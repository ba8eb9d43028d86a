use Rattle.rt_text.proofs.Common.{◌≡◌, sym, ◌∙◌, Some, value_of, registers}
use Rattle.rt_text.proofs.NameLemmas.{register_small, some_of}
use Rattle.rt_text.proofs.names.register_of.Goals as goal

pub returns-in_err-value_at : goal.returns-in_err-value_at
unfolding registers
returns-in_err-value_at c = c.from_residual.ensures ∙ sym c.in_err-value_at.was ∙ c.value_at.ensures

pub returns : goal.returns
unfolding registers
returns c =
    let found : value_of registers c.args.name.now ≡ Some c.in_ok-value_at.field-0 = sym c.value_at.ensures ∙ c.in_ok-value_at.was in
    some_of c.new.result c.in_ok-value_at.field-0 (c.new.ensures.valid.1 (register_small c.args.name.now c.in_ok-value_at.field-0 found)) c.new.ensures.value ∙ sym found
