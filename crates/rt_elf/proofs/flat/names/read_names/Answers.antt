use Rattle.rt_elf.proofs.Common.{arith, named}
use Rattle.rt_elf.specs.flat.FlatNames.{names_of}
use Rattle.rt_elf.proofs.flat.LineLemmas.{next_line}
use Rattle.rt_elf.proofs.flat.names.read_names.Goals as goal

pub loop-rest-preserved : goal.loop-rest-preserved
loop-rest-preserved c =
    let taken = rw c.if-not-branch.false at c.in_ok-take_line.ensures.taken in
    record {
      counted = omega (arith, c.cut_line.ensures.shorter);
      few = omega (arith, c.take_line.ensures.few);
      listed = c.take_line.ensures.listed;
      same = next_line (names_of c.args.size c.args.text.now) c.args.size c.loop-rest.number (named c.loop-rest.names) (named c.take_line.new.names) c.loop-rest.rest.now c.cut_line.result.0.now c.cut_line.result.1.now
          c.cut_line.ensures.first taken c.loop-rest.invariant.same;
    }
