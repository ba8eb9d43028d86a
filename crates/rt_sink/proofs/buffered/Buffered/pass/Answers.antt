use Rattle.std.proofs.Common.{◌≡◌, true, false, true≢false, refl, sym, ap, subst, ◌∙◌}
use Rattle.rt_sink.specs.Buffered.{BufferedSink, Delivers}
use Rattle.rt_sink.proofs.buffered.Buffered.pass.Goals as goal

pub returns-then-has_failed-clause-passes : goal.returns-then-has_failed-clause-passes
returns-then-has_failed-clause-passes g c =
    let seen = g.S.Sink.seen in
    let shut : (seen c.deliver.new.self.inner).failed ≡ true =
    sym (ap (λ (b : BufferedSink g.row.S.Denot). (seen b.inner).failed) c.self.view_is) ∙ sym c.has_failed.ensures ∙ c.if-has_failed.true in
    (c.deliver.new.self, c.deliver.ensures, (λ _. refl), (λ is_open. absurd (true≢false (sym shut ∙ is_open))))

pub returns-in-Taken-clause-passes : goal.returns-in-Taken-clause-passes
returns-in-Taken-clause-passes g c =
    let between : BufferedSink g.row.S.Denot = record { inner = c.self.inside.inner; gathered = c.self.inside.gathered.items; delivered = c.self.inside.delivered } in
    let first : Delivers g.S.Sink.seen c.args.self.now between =
    subst (Delivers g.S.Sink.seen c.args.self.now) (sym c.self.view_is) c.deliver.ensures in
    (between, first, rw c.in-Taken.is at c.put-put.ensures.answer, rw c.saturating_add-self-inside.ensures refl)

pub returns-in_default-clause-passes : goal.returns-in_default-clause-passes
returns-in_default-clause-passes g c =
    let seen = g.S.Sink.seen in
    let between : BufferedSink g.row.S.Denot = record { inner = c.self.inside.inner; gathered = c.self.inside.gathered.items; delivered = c.self.inside.delivered } in
    let first : Delivers seen c.args.self.now between = subst (Delivers seen c.args.self.now) (sym c.self.view_is) c.deliver.ensures in
    let is_open : (seen c.self.inside.inner).failed ≡ false = sym c.has_failed.ensures ∙ c.if-has_failed.false in
    rw c.in_default.is (between, first, (λ shut. absurd (true≢false (sym shut ∙ is_open))), (λ _. (rw c.in_default.is at c.put-put.ensures.answer, refl)))
