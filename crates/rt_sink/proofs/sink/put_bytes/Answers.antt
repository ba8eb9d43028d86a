use Rattle.std.proofs.Common.{arith}
use Rattle.rt_sink.proofs.Sinks.{Appends-more}
use Rattle.rt_sink.proofs.sink.put_bytes.Goals as goal

pub loop-done-preserved : goal.loop-done-preserved
loop-done-preserved g c =
    let taken = c.in-Taken.ensures.answer in
    record {
      bound = omega (arith, taken.2);
      is_open = taken.1;
      took = Appends-more _ _ _ c.args.bytes.now c.loop-done.done c.in-Taken.taken c.loop-done.invariant.took taken.4;
    }
