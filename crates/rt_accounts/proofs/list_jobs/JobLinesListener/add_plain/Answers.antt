use Rattle.rt_accounts.proofs.Common.{◌+◌, legal, listed_text}
use Rattle.rt_accounts.proofs.JobLemmas.{listed-plain, on-same}
use Rattle.rt_accounts.proofs.list_jobs.JobLinesListener.add_plain.Goals as goal

pub returns-clause-told : goal.returns-clause-told
returns-clause-told g c = λ takes first set t told plain.
    let writer = c.args.self.now.writer in
    let d = first.details in
    let same = listed-plain d set t c.args.task c.args.n plain in (
      c.add_plain.ensures.stands set t told.0 plain,
      told.1,
      told.2,
      on-same g.S.Sink.seen (listed_text d set (legal set first.report.now.tick)) (listed_text d set (legal set t)) (listed_text d set (legal set (t + c.args.n)))
          first.writer.written first.writer.sink.now writer.written writer.sink.now same told.3,
    )
