use Rattle.rt_queue.proofs.Common.{None, arith}
use Rattle.std.proofs.Common.{take}
use Rattle.std.proofs.lemmas.List.{take_more, length-take-le}
use Rattle.rt_queue.proofs.scan.ScanMinQueue.least.Goals as goal

pub loop-number-preserved : goal.loop-number-preserved
loop-number-preserved c =
    rw (take_more c.deref-key-items.result.now c.loop-number.number None c.loop-number-test.true)
    (c.least_up_to-least.ensures (take c.loop-number.number c.deref-key-items.result.now) (length-take-le c.loop-number.number c.deref-key-items.result.now (omega arith)) c.loop-number.invariant)
