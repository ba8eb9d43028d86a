use Rattle.rt_programs.proofs.Common.{ap, ◌∙◌, task_set, MachineState, tick_is, sizes_fit}
use Rattle.rt_programs.proofs.run_system.simulate.Goals as goal

pub load_under-requires : goal.load_under-requires
load_under-requires g c = sizes_fit c.in_ok-system.system.version c.in_ok-system.system.tasks.items c.in_ok-system.ensures.found.0.tasks_fit

pub write_run-requires-clause-start : goal.write_run-requires-clause-start
write_run-requires-clause-start g c = ap (λ (m : MachineState). m.tick) c.in_ok-machine.ensures.1 ∙ tick_is (task_set c.in_ok-system.system) 0
