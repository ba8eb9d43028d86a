use Rattle.rt_asm.proofs.Common.{[], rules, arith}
use Rattle.std.proofs.Math.ListN.{drop_of_length-le}
use Rattle.rt_asm.proofs.LayoutLemmas.{kept}
use Rattle.rt_asm.proofs.ImageLemmas.{forward_by, finish}
use Rattle.rt_asm.proofs.assembling.image_bytes.Goals as goal

pub overflow_sub-place : goal.overflow_sub-place
overflow_sub-place c =
    omega (arith, (kept 1 (record { place = 0x80000000; labels = [] }) c.args.lines.now c.args.plan.now c.requires).grows, c.place.ensures)

pub loop-line-preserved : goal.loop-line-preserved
loop-line-preserved c = record {
  counted = omega arith;
  progress =
      forward_by c.args.lines.now c.args.plan.now c.loop-line.line-index c.loop-line.bytes.items c.push_line.new.out.items c.line-item.result c.len.result c.labels.result.now
      c.loop-line-test.true c.loop-line.invariant.progress c.line-item.is (search rules) c.labels.ensures c.in-Ok.ensures;
}

pub returns-clause-placed : goal.returns-clause-placed
returns-clause-placed c =
    (finish c.args.lines.now c.args.plan.now c.loop-line.line-index c.loop-line.bytes.items (drop_of_length-le c.args.lines.now c.loop-line-test.false) c.loop-line.invariant.progress).placed
