use Rattle.rt_waves.proofs.laws.IdleLaw.{idle-begins, idle-silent}
use Rattle.rt_waves.proofs.laws.laws.idle_is_one_step.Goals as goal

pub returns-clause-first : goal.returns-clause-first
returns-clause-first c = idle-begins

pub returns-clause-others : goal.returns-clause-others
returns-clause-others c = idle-silent
