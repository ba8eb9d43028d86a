use Rattle.std.proofs.Common.{arith}
use Rattle.rt_set.specs.SetFile.{set_lines}
use Rattle.rt_set.proofs.LineLemmas.{first_line}
use Rattle.rt_set.proofs.SaidLemmas.{said_step, said_done}
use Rattle.rt_set.proofs.said_lines.said_before.Goals as goal

pub loop-left-preserved : goal.loop-left-preserved
loop-left-preserved c =
    let first = first_line c.loop-left.rest.now c.cut_line.result.0.now c.cut_line.result.1.now c.cut_line.ensures.first in
    let step =
    said_step c.loop-left.left c.loop-left.said (set_lines c.loop-left.rest.now) c.cut_line.result.0.now (set_lines c.cut_line.result.1.now) c.loop-left-test.true first in
    record {
      few = omega (arith, c.loop-left.invariant.few, c.said_of-said.ensures.one, c.cut_line.ensures.shorter);
      same = omega (arith, step, c.said_of-said.ensures.value, c.loop-left.invariant.same);
    }

pub returns-after-loop-left : goal.returns-after-loop-left
returns-after-loop-left c =
    omega (arith, said_done c.loop-left.left (set_lines c.loop-left.rest.now) c.loop-left-test.false, c.loop-left.invariant.same)
