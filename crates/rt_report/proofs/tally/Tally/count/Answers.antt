use Rattle.rt_report.proofs.Common.{◌≡◌, sym, arith}
use Rattle.rt_report.proofs.WaitingLaws.{counted-none}
use Rattle.rt_report.proofs.tally.Tally.count.Goals as goal

pub returns-else-n-gt0 : goal.returns-else-n-gt0
returns-else-n-gt0 c =
    let none : c.args.n ≡ 0 = omega (arith, c.if-n-gt0.false) in
    rw none (sym (counted-none c.args.self.now))
