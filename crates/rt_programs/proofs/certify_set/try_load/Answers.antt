use Rattle.rt_programs.proofs.Common.{sizes_fit}
use Rattle.rt_programs.proofs.certify_set.try_load.Goals as goal

pub load-requires : goal.load-requires
load-requires c = sizes_fit c.args.system.now.version c.args.system.now.tasks.items c.requires.tasks_fit
