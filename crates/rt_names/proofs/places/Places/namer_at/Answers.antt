use Rattle.rt_names.proofs.Common.{arith, labels}
use Rattle.rt_names.proofs.PlaceLemmas.{found-there, found-nowhere}
use Rattle.rt_names.proofs.places.Places.namer_at.Goals as goal

pub returns-then-count-eq0 : goal.returns-then-count-eq0
returns-then-count-eq0 c =
    let split = rw c.deref.ensures.value at c.count_to-count.ensures.split in
    rw (← c.self.view_is) (found-nowhere (labels c.self.inside.symbols.now) c.self.inside.namers.items c.args.address c.count_to-count.result c.self.invariant split (omega arith))

pub returns : goal.returns
returns c =
    let split = rw c.deref.ensures.value at c.count_to-count.ensures.split in
    let within = rw c.deref.ensures.value at c.count_to-count.ensures.within in
    rw (← c.self.view_is, c.index.ensures)
    (found-there (labels c.self.inside.symbols.now) c.self.inside.namers.items c.args.address c.count_to-count.result _ c.self.invariant within split (omega arith))
