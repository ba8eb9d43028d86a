use Rattle.rt_accounts.proofs.Common.{◌+◌, [], sym, ◌∙◌, append-nil, Offers-nil, ticks_of, legal}
use Rattle.rt_report.specs.JobText.{job_line, jobs_text}
use Rattle.rt_accounts.proofs.JobLemmas.{jobs_text-same, jobs_text-one}
use Rattle.rt_accounts.proofs.list_jobs.offer_brief.Goals as goal

pub returns-in-Some-clause-offers : goal.returns-in-Some-clause-offers
returns-in-Some-clause-offers g c = λ set t told goes.
    let h = legal set t in
    let after = legal set (t + ticks_of c.args.entry.now) in
    let more = rw c.in-Some.is at (c.finished_by.ensures set t told goes) in
    record { more = job_line c.in-Some.job; grown = jobs_text-one set after h c.in-Some.job more; offered = c.offer_to.ensures.offers }

pub returns-in_default-clause-offers : goal.returns-in_default-clause-offers
returns-in_default-clause-offers g c = λ set t told goes.
    let h = legal set t in
    let after = legal set (t + ticks_of c.args.entry.now) in
    let same = jobs_text-same set after h (rw c.in_default.is at (c.finished_by.ensures set t told goes)) in
    let out = c.args.out.now in
    record { more = []; grown = same ∙ sym (append-nil (jobs_text set h)); offered = Offers-nil g.S.Sink.seen out.written out.sink.now }
