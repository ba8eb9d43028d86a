use Rattle.rt_walk.proofs.Common.{sym, ap, ◌∙◌}
use Rattle.rt_walk.specs.Jobs.{first_job}
use Rattle.rt_walk.proofs.JobLemmas.{first-more, first-none}
use Rattle.rt_walk.proofs.jobs.Jobs.begin.Goals.{in-Some+in_ok-push, in_default}
use Rattle.rt_walk.proofs.jobs.Jobs.begin.Goals as goal

pub loop-task-preserved : goal.loop-task-preserved
loop-task-preserved g c = elim c.match-first_job.branch [
  | in-Some+in_ok-push w ↦ ap (λ jobs. jobs.items) w.jobs-is ∙ w.in_ok-push.ensures.items
      ∙ first-more (first_job c.args.machine.now.tick) c.args.machine.now.tasks c.loop-task.task w.in-Some.job c.loop-task.jobs.items c.loop-task.invariant (sym w.in-Some.is ∙ c.first_job.ensures)
  | in_default w ↦ ap (λ jobs. jobs.items) w.jobs-is ∙ c.loop-task.invariant
      ∙ first-none (first_job c.args.machine.now.tick) c.args.machine.now.tasks c.loop-task.task (sym w.in_default.is ∙ c.first_job.ensures)
]
