use Rattle.rt_opening.proofs.SystemLemmas.{sizes_fit}
use Rattle.rt_opening.proofs.overloading.overload_of.Goals as goal

pub can_run-requires : goal.can_run-requires
can_run-requires c = sizes_fit c.in-Ok.system.version c.in-Ok.system.tasks.items c.in-Ok.ensures.found.0.tasks_fit
