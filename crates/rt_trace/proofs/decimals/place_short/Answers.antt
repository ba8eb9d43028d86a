use Rattle.rt_trace.proofs.Common.{ℕ, List, subst, arith, decimal_digit, Placed}
use Rattle.rt_trace.proofs.Places.{two_digits}
use Rattle.rt_trace.proofs.decimals.place_short.Goals as goal

pub returns-then-number-lt10 : goal.returns-then-number-lt10
returns-then-number-lt10 c = rw (decimal_digit c.args.number c.if-number-lt10.true) c.place_byte.ensures

pub returns-else-number-lt10 : goal.returns-else-number-lt10
returns-else-number-lt10 c =
    subst (λ (x : List ℕ). Placed c.args.bytes.now c.place_pair.new.bytes c.args.at x c.place_pair.result)
    (two_digits c.args.number (omega (arith, c.if-number-lt10.false)) c.requires.small) c.place_pair.ensures
