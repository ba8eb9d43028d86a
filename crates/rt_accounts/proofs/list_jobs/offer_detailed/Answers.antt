use Rattle.rt_accounts.proofs.Common.{◌+◌, ℕ, List, [], sym, subst, ◌∙◌, append-nil, Offers-nil, ticks_of, legal}
use Rattle.rt_sink.specs.Offers.{Offers}
use Rattle.rt_names.specs.TaskNames.{task_names}
use Rattle.rt_report.specs.DetailText.{detailed_line, detailed_text}
use Rattle.rt_accounts.proofs.JobLemmas.{detailed_text-same, detailed_text-one}
use Rattle.rt_accounts.proofs.list_jobs.offer_detailed.Goals as goal

pub returns-in-Some-clause-offers : goal.returns-in-Some-clause-offers
returns-in-Some-clause-offers g c = λ set t told named goes.
    let h = legal set t in
    let after = legal set (t + ticks_of c.args.entry.now) in
    let more = rw c.in-Some.is at (c.detailed_by.ensures set t told goes) in
    let out = c.args.out.now in
    let new = c.offer_to.new.out in
    record {
      more = detailed_line (task_names set) c.in-Some.detailed;
      grown = detailed_text-one set after h c.in-Some.detailed more;
      offered =
          subst (λ (names : List (List ℕ)). Offers g.S.Sink.seen out.written out.sink.now (detailed_line names c.in-Some.detailed) new.written new.sink.now) named
          c.offer_to.ensures.offers;
    }

pub returns-in_default-clause-offers : goal.returns-in_default-clause-offers
returns-in_default-clause-offers g c = λ set t told named goes.
    let h = legal set t in
    let after = legal set (t + ticks_of c.args.entry.now) in
    let same = detailed_text-same set after h (rw c.in_default.is at (c.detailed_by.ensures set t told goes)) in
    let out = c.args.out.now in
    record { more = []; grown = same ∙ sym (append-nil (detailed_text set h)); offered = Offers-nil g.S.Sink.seen out.written out.sink.now }
