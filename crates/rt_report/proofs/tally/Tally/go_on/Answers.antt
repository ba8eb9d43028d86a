use Rattle.rt_report.proofs.Common.{◌≡◌, refl, subst, ◌∙◌, after, gone_on, TaskReport, taken, spanned, with_tick}
use Rattle.rt_report.specs.Working.Tallied.{with_charge, with_outcome}
use Rattle.rt_report.proofs.tally.Tally.go_on.Goals as goal

pub returns : goal.returns
returns c =
    let new : TaskReport = record { serving = c.take.new.self; open_job = c.add_tick-2.new.self; span = c.add_tick.new.self; row = c.add_tick-3.new.self; counts = c.add_outcome.new.self; start = c.self.inside.start } in
    let P : TaskReport → Type 0 = λ y. new ≡ record y {
      serving = after c.args.u (taken c.args.outcome y.serving.account) y.serving.account;
      open_job = gone_on (c.args.u, c.args.outcome) y.open_job;
      span = spanned c.args.u y.open_job.ticks y.span;
      row = with_tick y.row;
      counts = with_outcome (taken c.args.outcome y.serving.account) (with_charge (taken c.args.outcome y.serving.account) y.serving.account y.counts);
    } in
    subst P (c.self.view_is ∙ c.wake_due.ensures)
    (rw (
      c.add_outcome.ensures,
      c.add_charge.ensures,
      c.d.ensures,
      c.d-deadline.ensures,
      c.server-3.ensures,
      c.server-2.ensures,
      c.take.ensures,
      c.taken_by-taken.ensures,
      c.server.ensures,
      c.add_tick.ensures,
      c.ticks.ensures,
      c.add_tick-2.ensures c.args.u,
      c.add_tick-3.ensures,
    ) refl)
