use Rattle.std.proofs.Common.{arith}
use Rattle.rt_admit.proofs.WeightLemmas.{weights_fit}
use Rattle.rt_admit.proofs.runnable.weight_sum.Goals as goal

pub overflow_add-total : goal.overflow_add-total
overflow_add-total c =
    omega (
      arith,
      weights_fit c.args.hyper c.args.params.now c.loop-task.task-index (record { budget = 0; period = 0; start = 0 })
          c.requires.hyper_bounded c.requires.few c.requires.eligible c.loop-task-test.true,
    )
