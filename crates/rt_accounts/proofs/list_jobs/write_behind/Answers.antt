use Rattle.rt_accounts.proofs.Common.{◌≡◌, Bool, List, ℕ, [], sym, subst, legal}
use Rattle.std.proofs.Common.{cond}
use Rattle.rt_sink.specs.Sink.{Counts}
use Rattle.rt_report.specs.DetailText.{unfinished_text}
use Rattle.rt_accounts.proofs.list_jobs.write_behind.Goals as goal

pub returns-then-form : goal.returns-then-form
returns-then-form g c = λ set t stands named.
    let form = c.args.form in
    subst (λ (b : Bool). Counts g.S.Sink.seen c.args.out.now (cond b (unfinished_text form.details set (legal set t)) []) c.write_unfinished.result c.write_unfinished.new.out)
    (sym c.if-form.true) (c.write_unfinished.ensures set t stands named)

pub returns-else-form : goal.returns-else-form
returns-else-form g c = λ set t stands named.
    let form = c.args.form in
    subst (λ (b : Bool). Counts g.S.Sink.seen c.args.out.now (cond b (unfinished_text form.details set (legal set t)) []) c.write.result c.write.new.out)
    (sym c.if-form.false) (rw c.plain.ensures at c.write.ensures)
