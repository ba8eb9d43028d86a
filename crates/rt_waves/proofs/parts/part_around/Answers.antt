use Rattle.rt_waves.proofs.PartLemmas.{around-begin, around-end, around-part}
use Rattle.rt_waves.proofs.Common.{arith}
use Rattle.rt_waves.proofs.parts.part_around.Goals as goal

pub returns-clause-begin : goal.returns-clause-begin
returns-clause-begin c = rw c.last_of.ensures (around-begin c.args.addresses.now c.count_upto-count.result c.args.address c.count_upto-count.ensures.upto)

pub returns-clause-end : goal.returns-clause-end
returns-clause-end c = rw c.next_of.ensures (around-end c.args.addresses.now c.count_upto-count.result c.args.address (omega (arith, c.ranges.address)) c.count_upto-count.ensures.above)

pub returns-clause-part : goal.returns-clause-part
returns-clause-part c = around-part c.args.addresses.now c.count_upto-count.result _ c.requires c.count_upto-count.ensures.within c.last_of.ensures c.next_of.ensures
