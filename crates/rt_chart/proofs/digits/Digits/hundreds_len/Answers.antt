use Rattle.rt_chart.proofs.Common.{◌/◌, arith, length-decimal-le}
use Rattle.rt_chart.proofs.digits.Digits.hundreds_len.Goals as goal

pub returns-clause-few : goal.returns-clause-few
returns-clause-few c =
    let kept = c.self.invariant in
    let short = length-decimal-le 18 (c.self.inside.first / 100) (omega arith) (omega (arith, kept.small, kept.begun)) (omega (arith, kept.small, kept.begun)) in
    omega (arith, kept.count, short)
