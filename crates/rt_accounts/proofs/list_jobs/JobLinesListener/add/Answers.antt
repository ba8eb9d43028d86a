use Rattle.rt_accounts.proofs.Common.{◌+◌, Bool, ℕ, sym, subst, ◌∙◌, ticks_of, legal, listed_text, OffersMore}
use Rattle.rt_accounts.proofs.JobLemmas.{on-more}
use Rattle.rt_accounts.proofs.list_jobs.JobLinesListener.add.Goals as goal

pub returns-then-has_failed-clause-stopped : goal.returns-then-has_failed-clause-stopped
returns-then-has_failed-clause-stopped g c = λ first set t told goes behind.
    let u = t + ticks_of c.args.entry in
    let a = first.writer in
    let b = c.args.self.now.writer in
    let n = c.offer_finished.new.out in
    let text = λ (k : Bool) (v : ℕ). listed_text k set (legal set v) in
    let next = subst (λ (k : Bool). OffersMore g.S.Sink.seen (text k t) (text k u) b.written b.sink.now n.written n.sink.now) told.2 (c.offer_finished.ensures.offers set t told.0 told.1 goes) in (
      sym c.has_failed.ensures ∙ c.if-has_failed.true,
      on-more g.S.Sink.seen (text first.details first.report.now.tick) (text first.details t) (text first.details u)
          a.written a.sink.now b.written b.sink.now n.written n.sink.now next told.3,
    )

pub returns-clause-told : goal.returns-clause-told
returns-clause-told g c = λ first set t told goes behind.
    let u = t + ticks_of c.args.entry in
    let a = first.writer in
    let b = c.args.self.now.writer in
    let n = c.offer_finished.new.out in
    let text = λ (k : Bool) (v : ℕ). listed_text k set (legal set v) in
    let next = subst (λ (k : Bool). OffersMore g.S.Sink.seen (text k t) (text k u) b.written b.sink.now n.written n.sink.now) told.2 (c.offer_finished.ensures.offers set t told.0 told.1 goes) in (
      c.add.ensures.stands set t told.0 goes,
      told.1,
      told.2,
      on-more g.S.Sink.seen (text first.details first.report.now.tick) (text first.details t) (text first.details u)
          a.written a.sink.now b.written b.sink.now n.written n.sink.now next told.3,
    )
