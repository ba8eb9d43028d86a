use Rattle.std.proofs.Common.{arith, take_all, length-drop}
use Rattle.rt_desk.proofs.making.Steps.{more_written}
use Rattle.rt_desk.proofs.making.new_file.write_all.Goals as goal

pub loop-done-preserved : goal.loop-done-preserved
loop-done-preserved g c = record {
  within = omega (arith, c.in-Ok.ensures.some.1, length-drop c.loop-done.done c.args.bytes.now, c.loop-done-test.true);
  calls = more_written c.args.path.now c.args.bytes.now _ c.loop-done.done c.in-Ok.count _ _ _ (take_all _ _ (omega (arith, length-drop c.loop-done.done c.args.bytes.now))) c.loop-done.invariant.calls c.in-Ok.ensures.calls;
}
