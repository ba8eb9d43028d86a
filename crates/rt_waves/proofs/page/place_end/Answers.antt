use Rattle.rt_waves.proofs.Common.{ℕ, List, ◌∷◌, [], ◌++◌, ap, subst, arith, Placed}
use Rattle.std.proofs.lemmas.Fmt.{decimal_digit}
use Rattle.rt_trace.proofs.Places.{two_digits}
use Rattle.rt_waves.proofs.page.place_end.Goals as goal

pub returns-then-number-lt10-clause-text : goal.returns-then-number-lt10-clause-text
returns-then-number-lt10-clause-text c = rw (decimal_digit c.args.number c.if-number-lt10.true) c.place_front.ensures

pub returns-clause-text : goal.returns-clause-text
returns-clause-text c =
    subst (λ (x : List ℕ). Placed c.args.bytes.now c.place_front-2.new.bytes c.args.at x c.place_front-2.result)
    (ap (λ (digits : List ℕ). c.args.first ∷ c.args.letter ∷ (digits ++ 10 ∷ [])) (two_digits c.args.number (omega (arith, c.if-number-lt10.false)) (omega (arith, c.requires.task)))) c.place_front-2.ensures
