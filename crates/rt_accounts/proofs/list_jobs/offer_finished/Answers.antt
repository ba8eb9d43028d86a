use Rattle.rt_accounts.proofs.Common.{◌+◌, Bool, sym, subst, ticks_of, legal, listed_text, OffersMore}
use Rattle.rt_accounts.proofs.list_jobs.offer_finished.Goals as goal

pub returns-then-details-clause-offers : goal.returns-then-details-clause-offers
returns-then-details-clause-offers g c = λ set t told named goes.
    let out = c.args.out.now in
    let new = c.offer_detailed.new.out in
    subst (λ (b : Bool). OffersMore g.S.Sink.seen (listed_text b set (legal set t)) (listed_text b set (legal set (t + ticks_of c.args.entry.now))) out.written out.sink.now new.written new.sink.now)
    (sym c.if-details.true) (c.offer_detailed.ensures.offers set t told named goes)

pub returns-else-details-clause-offers : goal.returns-else-details-clause-offers
returns-else-details-clause-offers g c = λ set t told named goes.
    let out = c.args.out.now in
    let new = c.offer_brief.new.out in
    subst (λ (b : Bool). OffersMore g.S.Sink.seen (listed_text b set (legal set t)) (listed_text b set (legal set (t + ticks_of c.args.entry.now))) out.written out.sink.now new.written new.sink.now)
    (sym c.if-details.false) (c.offer_brief.ensures.offers set t told goes)
