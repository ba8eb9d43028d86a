use Rattle.rt_accounts.proofs.Common.{◌≡◌, ap, arith}
use Rattle.std.proofs.Common.{◌^◌, min}
use Rattle.rt_opening.proofs.EndLemmas.{ends-written}
use Rattle.rt_accounts.specs.Reporting.{text_at, ReportMeans}
use Rattle.rt_accounts.proofs.JobLemmas.{own-tick}
use Rattle.rt_accounts.proofs.report_system.report.Goals as goal

pub run-run-requires-clause-before : goal.run-run-requires-clause-before
run-run-requires-clause-before g c =
    let o = c.in_ok-open.ensures in
    let start : c.in_ok-open.field-0.machine.tick ≡ 0 = own-tick o.0 0 _ o.3.machine in
    omega (arith, start)

pub returns : goal.returns
returns g c =
    let o = c.in_ok-open.ensures in
    let set = o.0 in
    let text = text_at c.args.width set c.min.result in
    let is : text ≡ text_at c.args.width set (min c.args.n (2 ^ 40)) = ap (text_at c.args.width set) c.min.ensures in
    ends-written g.S.Sink.seen (ReportMeans c.args.bytes.now c.args.admission c.args.n c.args.width) c.args.out.now c.write_report.new.out text c.write_report.result c.answer.result
    c.answer.ensures (set, o.1, o.2, is) (c.write_report.ensures set c.min.result (c.run-run.ensures.stands set 0 o.3))
