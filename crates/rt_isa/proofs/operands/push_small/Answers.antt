use Rattle.rt_isa.proofs.Common.{[], ◌∷◌, ◌+◌, ◌/◌, ◌%◌, arith, append_assoc}
use Rattle.std.proofs.lemmas.Fmt.{decimal_digit}
use Rattle.rt_isa.proofs.Digits.{two_digits}
use Rattle.rt_isa.proofs.operands.push_small.Goals as goal

pub returns-then-number-lt10-clause-text : goal.returns-then-number-lt10-clause-text
returns-then-number-lt10-clause-text c = rw (decimal_digit c.args.number (omega arith)) c.push_byte.ensures.text

pub returns-clause-text : goal.returns-clause-text
returns-clause-text c =
    let n = c.args.number in
    rw (two_digits n (omega arith) (omega arith), c.push_byte-3.ensures.text, c.push_byte-2.ensures.text) (append_assoc c.args.line.now.items ((48 + n / 10) ∷ []) ((48 + n % 10) ∷ []))
