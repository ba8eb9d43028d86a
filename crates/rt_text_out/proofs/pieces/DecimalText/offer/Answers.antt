use Rattle.std.proofs.Common.{◌<◌, length, ap, arith}
use Rattle.std.proofs.lemmas.Fmt.{decimal_digit}
use Rattle.rt_text_out.proofs.pieces.DecimalText.offer.Goals as goal

pub returns-then-self-lt10-clause-offers : goal.returns-then-self-lt10-clause-offers
returns-then-self-lt10-clause-offers g c =
    let small : c.args.self.now.0 < 10 = omega arith in
    rw (decimal_digit c.args.self.now.0 small) c.put.ensures

pub returns-then-self-lt10-clause-short : goal.returns-then-self-lt10-clause-short
returns-then-self-lt10-clause-short g c =
    let small : c.args.self.now.0 < 10 = omega arith in
    omega (arith, ap length (decimal_digit c.args.self.now.0 small))
