use Rattle.std.proofs.Common.{◌≡◌, subst, sym, ap, ◌∙◌, true}
use Rattle.rt_sink.specs.Buffered.{BufferedSink, Delivers}
use Rattle.rt_sink.proofs.Flushed.{HasFirst, arrived_first, arrived_before}
use Rattle.rt_sink.proofs.buffered.Buffered.flush.Goals as goal
use Rattle.rt_sink.proofs.buffered.Buffered.flush.Goals.{then-not-has_failed, else-not-has_failed}

pub returns-then-has_failed-clause-arrives : goal.returns-then-has_failed-clause-arrives
returns-then-has_failed-clause-arrives g c text limit is =
    let seen = g.S.Sink.seen in
    let left = c.if-not-has_failed.self in
    let Arrived : BufferedSink g.row.S.Denot → Type 0 = λ b. HasFirst seen text b.inner b.delivered in
    let shut : (seen c.self-2.inside.inner).failed ≡ true = sym c.has_failed-2.ensures ∙ c.if-has_failed.true in
    let left_shut : (seen left.inner).failed ≡ true = ap (λ (b : BufferedSink g.row.S.Denot). (seen b.inner).failed) (sym c.self-2.view_is) ∙ shut in
    let at : Arrived left = elim c.if-not-has_failed.branch [
      | then-not-has_failed w ↦
          let delivers : Delivers seen c.args.self.now left = subst (Delivers seen c.args.self.now) (sym w.self-is) w.deliver.ensures in
          arrived_first seen c.args.self.now left text limit is left_shut delivers
      | else-not-has_failed w ↦ subst Arrived (sym w.self-is) (arrived_before seen c.args.self.now text limit is)
    ] in
    subst (HasFirst seen text left.inner) (ap (λ (b : BufferedSink g.row.S.Denot). b.delivered) (sym c.self-2.view_is)) at
