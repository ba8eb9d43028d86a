use Rattle.std.proofs.Common.{◌≡◌, ◌≤◌, ◌*◌, ◌^◌, take, sum_by}
use Rattle.rt_admit.specs.Reservation.{held_weight}
use Rattle.rt_admit.proofs.reservation.held_sum.Given as goal

-- the sum so far, and a bound of each task's part
abbrev pub invariant-loop-task : goal.invariant-loop-task
invariant-loop-task l = (l.total ≡ sum_by (held_weight l.hyper) (take l.task-index l.tasks)) × (l.total ≤ l.task-index * 2 ^ 54)
