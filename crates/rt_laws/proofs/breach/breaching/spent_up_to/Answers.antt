use Rattle.rt_laws.proofs.Common.{arith}
use Rattle.rt_laws.proofs.breach.Rooms.{spent-fits}
use Rattle.rt_laws.proofs.breach.breaching.spent_up_to.Goals as goal

pub overflow_add-total : goal.overflow_add-total
overflow_add-total c =
    omega (
      arith,
      spent-fits c.args.tick c.args.params.now c.loop-task.task-index (record { budget = 0; period = 0; start = 0 })
          c.requires.bounded c.requires.few c.requires.granted c.loop-task-test.true,
    )
