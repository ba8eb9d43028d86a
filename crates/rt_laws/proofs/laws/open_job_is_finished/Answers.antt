use Rattle.rt_laws.proofs.Common.{refl, ◌∙◌}
use Rattle.rt_laws.proofs.WorkLaws.{jobs_next}
use Rattle.rt_laws.proofs.laws.open_job_is_finished.Goals as goal

pub returns-clause-finished : goal.returns-clause-finished
returns-clause-finished c = λ s own u o ends. jobs_next s own (u, o) ∙ rw ends refl

pub returns-clause-unfinished : goal.returns-clause-unfinished
returns-clause-unfinished c = λ s own u o goes. jobs_next s own (u, o) ∙ rw goes refl
