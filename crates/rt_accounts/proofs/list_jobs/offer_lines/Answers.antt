use Rattle.rt_accounts.proofs.Common.{◌≡◌, ℕ, refl, sym, subst, ◌∙◌, legal, state_at, listed_text, OffersMore}
use Rattle.std.proofs.Common.{inl, inr}
use Rattle.rt_accounts.proofs.JobLemmas.{on-nothing, on-failed, listed-begins, ended, when_ok, when_err}
use Rattle.rt_accounts.proofs.list_jobs.offer_lines.Goals as goal

pub returns-then-has_failed-clause-offers : goal.returns-then-has_failed-clause-offers
returns-then-has_failed-clause-offers g c = λ set stands told named.
    let writer = c.args.lines.now.writer in
    let d = c.args.lines.now.details in
    let t = c.args.machine.now.tick in
    let from = listed-begins d set t c.args.n c.requires.before in
    let x = listed_text d set (legal set t) in
    on-failed g.S.Sink.seen x x (listed_text d set (legal set c.args.n)) from.0 writer.written writer.sink.now writer.written writer.sink.now
    (sym c.has_failed.ensures ∙ c.if-has_failed.true) from.1 (on-nothing g.S.Sink.seen x writer.written writer.sink.now)

pub returns-clause-offers : goal.returns-clause-offers
returns-clause-offers g c = λ set stands told named.
    let seen = g.S.Sink.seen in
    let first = c.args.lines.now in
    let last = c.follow.new.listener.writer in
    let t = c.args.machine.now.tick in
    let d = first.details in
    let text = λ (v : ℕ). listed_text d set (legal set v) in
    let nothing = subst (λ (u : ℕ). OffersMore seen (text u) (text t) first.writer.written first.writer.sink.now first.writer.written first.writer.sink.now)
    (sym c.requires.together) (on-nothing seen (text t) first.writer.written first.writer.sink.now) in
    subst (λ (u : ℕ). OffersMore seen (text u) (text c.args.n) first.writer.written first.writer.sink.now last.written last.sink.now) c.requires.together
    (elim (ended c.follow.result _ _ c.follow.ensures.told c.follow.ensures.stopped) [
      | inl whole ↦ (whole first set stands (told, named, refl, nothing)).3
      | inr short ↦
          let stop = short first set stands (told, named, refl, nothing) in
          let from = listed-begins d set c.follow.new.machine.tick c.args.n c.follow.ensures.within in
          on-failed seen (text first.report.now.tick) (text c.follow.new.machine.tick) (text c.args.n) from.0 first.writer.written first.writer.sink.now last.written last.sink.now
          stop.0 from.1 stop.1
    ])

pub returns-clause-stands : goal.returns-clause-stands
returns-clause-stands g c =
    when_ok c.follow.result _ _ _
    (λ arrives whole set stands told named.
    let first = c.args.lines.now in
    let t = c.args.machine.now.tick in
    let text = λ (v : ℕ). listed_text first.details set (legal set v) in
    let nothing = subst (λ (u : ℕ). OffersMore g.S.Sink.seen (text u) (text t) first.writer.written first.writer.sink.now first.writer.written first.writer.sink.now)
    (sym c.requires.together) (on-nothing g.S.Sink.seen (text t) first.writer.written first.writer.sink.now) in
    let m = c.follow.new.machine in
    (subst (λ (u : ℕ). m ≡ state_at set u) arrives (c.follow.ensures.stands set stands), (whole first set stands (told, named, refl, nothing)).0))
    c.follow.ensures.arrives c.follow.ensures.told

pub returns-clause-stops : goal.returns-clause-stops
returns-clause-stops g c =
    when_err c.follow.result _ _
    (λ short set stands told named.
    let first = c.args.lines.now in
    let t = c.args.machine.now.tick in
    let text = λ (v : ℕ). listed_text first.details set (legal set v) in
    let nothing = subst (λ (u : ℕ). OffersMore g.S.Sink.seen (text u) (text t) first.writer.written first.writer.sink.now first.writer.written first.writer.sink.now)
    (sym c.requires.together) (on-nothing g.S.Sink.seen (text t) first.writer.written first.writer.sink.now) in
    (short first set stands (told, named, refl, nothing)).0)
    c.follow.ensures.stopped
