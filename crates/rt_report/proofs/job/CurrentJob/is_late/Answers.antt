use Rattle.rt_report.proofs.Common.{◌≡◌, true, false, sym, ap, ◌∙◌, response, is_hard, finished_at}
use Rattle.std.proofs.Common.{◌&&◌, nat_lt}
use Rattle.rt_report.proofs.job.CurrentJob.is_late.Goals as goal

pub returns-then-is_hard : goal.returns-then-is_hard
returns-then-is_hard c =
    let j = finished_at c.args.u c.args.self.now in
    let hard : is_hard j ≡ true = sym (c.is_hard.ensures c.args.u) ∙ c.if-is_hard.true in
    c.is_over.ensures ∙ sym (ap (λ b. b && nat_lt c.args.period (response j)) hard)

pub returns-else-is_hard : goal.returns-else-is_hard
returns-else-is_hard c =
    let j = finished_at c.args.u c.args.self.now in
    let soft : is_hard j ≡ false = sym (c.is_hard.ensures c.args.u) ∙ c.if-is_hard.false in
    c.if-is_hard.false ∙ sym (ap (λ b. b && nat_lt c.args.period (response j)) soft)
