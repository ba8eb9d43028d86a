use Rattle.std.proofs.Common.{◌<◌, ◌+◌, ◌*◌, arith, sym, ◌∙◌, refl, get_or}
use Rattle.std.specs.Char.{digit_value}
use Rattle.rt_token.proofs.DigitLemmas.{value_after-stops}
use Rattle.rt_token.proofs.numbers.value_up_to.Goals as goal

pub returns-then-next-from-clause-value : goal.returns-then-next-from-clause-value
returns-then-next-from-clause-value c =
    let d = get_or c.args.digits.now c.loop-digit.digit-index 0 in
    let digit : digit_value d < c.args.radix = omega arith in
    let large : c.args.limit < c.loop-digit.value * c.args.radix + digit_value d = rw (c.from-in-loop-digit-3.ensures, c.from.ensures, c.from-in-loop-digit.ensures, c.from-in-loop-digit-2.ensures, c.digit_value-digit.ensures) at c.if-next-from.true in
    sym (c.loop-digit.invariant.same ∙ value_after-stops _ _ _ _ d _ c.requires c.loop-digit-test.true refl digit large)
