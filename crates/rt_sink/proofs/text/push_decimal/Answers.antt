use Rattle.std.proofs.Common.{◌<◌, arith}
use Rattle.std.proofs.lemmas.Fmt.{decimal_digit}
use Rattle.rt_sink.proofs.text.push_decimal.Goals as goal

pub returns-then-number-lt10-clause-text : goal.returns-then-number-lt10-clause-text
returns-then-number-lt10-clause-text g c =
    let small : c.args.number < 10 = omega arith in
    rw (decimal_digit c.args.number small) c.push_byte.ensures.text
