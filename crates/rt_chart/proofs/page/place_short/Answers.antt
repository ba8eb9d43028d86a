use Rattle.rt_chart.proofs.Common.{◌≡◌, ℕ, List, ◌+◌, ◌++◌, take, decimal, ap, sym, ◌∙◌, arith}
use Rattle.std.proofs.lemmas.List.{take_more_set}
use Rattle.std.proofs.lemmas.Fmt.{decimal_digit}
use Rattle.rt_trace.proofs.Places.{two_digits}
use Rattle.rt_chart.proofs.page.place_short.Goals as goal

pub returns-then-number-lt10-clause-text : goal.returns-then-number-lt10-clause-text
returns-then-number-lt10-clause-text c =
    take_more_set c.args.bytes.now c.args.at (48 + c.args.number) (omega (arith, c.requires.room))
    ∙ ap (λ (digits : List ℕ). take c.args.at c.args.bytes.now ++ digits) (sym (decimal_digit c.args.number c.if-number-lt10.true))

pub returns-clause-text : goal.returns-clause-text
returns-clause-text c =
    let digits : take 2 c.pair_of.result ≡ decimal c.args.number =
    ap (take 2) c.pair_of.ensures ∙ two_digits c.args.number c.if-number-lt10.false c.requires.short in
    c.store_front.ensures.text 2 (omega arith) ∙ ap (λ (text : List ℕ). take c.args.at c.args.bytes.now ++ text) digits
