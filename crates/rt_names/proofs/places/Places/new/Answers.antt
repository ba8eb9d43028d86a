use Rattle.rt_names.proofs.PlaceLemmas.{are-namers}
use Rattle.rt_names.proofs.places.Places.new.Goals as goal

pub invariant_of-result : goal.invariant_of-result
invariant_of-result c =
    let same = rw c.deref.ensures.value at c.in_ok-namers.ensures in
    are-namers c.args.symbols.now c.in_ok-rising.rising.items c.in_ok-namers.namers.items c.in_ok-rising.ensures.sorted c.in_ok-rising.ensures.stable same
