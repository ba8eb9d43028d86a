use Rattle.rt_remote.proofs.Common.{◌≡◌, drop}
use Rattle.std.specs.Prelude.{not, ◌||◌}
use Rattle.std.specs.List.{list_all, enumerate_from}
use Rattle.rt_remote.specs.stops.Looked.{is_done}
use Rattle.rt_remote.specs.stops.Working.Stepped.{such}
use Rattle.rt_remote.proofs.stops.looked.are_done.Given as goal

abbrev pub invariant-loop-task : goal.invariant-loop-task
invariant-loop-task g l =
    list_all (λ n. not (such l.steps_alone n.1) || is_done l.machine n.0) (enumerate_from 0 l.actions)
    ≡ list_all (λ n. not (such l.steps_alone n.1) || is_done l.machine n.0) (enumerate_from l.task (drop l.task l.actions))
