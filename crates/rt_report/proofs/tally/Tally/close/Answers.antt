use Rattle.rt_report.proofs.Common.{◌≡◌, refl, ap, subst, TaskReport, closed}
use Rattle.rt_report.proofs.SoundLemmas.{sum-room}
use Rattle.rt_report.proofs.tally.Tally.close.Goals as goal

pub returns : goal.returns
returns c =
    let new : TaskReport = record {
      serving = c.self.inside.serving;
      open_job = c.new-job.result;
      span = c.new-self-inside.result;
      row = c.add_job.new.self;
      counts = c.add_job-2.new.self;
      start = c.self.inside.start;
    } in
    let P : TaskReport → Type 0 = λ x. new ≡ closed c.args.u (record { tick = c.args.release; awaited = c.args.awaited }) x in
    subst P c.self.view_is
    (rw (c.new-self-inside.ensures, c.new-job.ensures, c.add_job.ensures, c.add_job-2.ensures, c.response-response.ensures, c.is_hard-hard.ensures c.args.u, c.is_late-late.ensures, c.is_over-over.ensures, c.ticks.ensures, c.p-period.ensures, c.server.ensures, c.server-2.ensures, c.server-3.ensures) refl)

pub add_job-requires-2-clause-response : goal.add_job-requires-2-clause-response
add_job-requires-2-clause-response c =
    let old : TaskReport = c.args.self.now in
    let counts = ap (λ (x : TaskReport). x.counts.response) c.self.view_is in
    let time = c.response-response.ensures in
    let job = ap (λ (x : TaskReport). x.open_job) c.self.view_is in
    rw (time, job, counts) (sum-room old.counts.response c.args.u old.open_job c.requires.limit c.requires.responses)
