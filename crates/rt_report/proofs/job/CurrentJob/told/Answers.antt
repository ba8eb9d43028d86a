use Rattle.rt_report.proofs.Common.{◌≡◌, refl, subst, response, is_hard, is_late, OpenJob, finished_at, FinishedJob, finished_job}
use Rattle.rt_report.proofs.job.CurrentJob.told.Goals as goal

pub returns : goal.returns
returns c =
    let u = c.args.u in
    let told : OpenJob → FinishedJob = λ o. record {
      task = c.args.task;
      number = c.args.number;
      release = c.self.inside.release;
      finish = u;
      response = response (finished_at u o);
      ticks = c.self.inside.ticks;
      fresh = c.self.inside.fresh;
      calm = c.self.inside.calm;
      hard = is_hard (finished_at u o);
      late = is_late c.args.period (finished_at u o);
    } in
    rw (c.response.ensures, c.is_hard.ensures u, c.is_late.ensures)
    (subst (λ (o : OpenJob). told o ≡ finished_job c.args.task c.args.period c.args.number (finished_at u o)) c.self.view_is refl)
