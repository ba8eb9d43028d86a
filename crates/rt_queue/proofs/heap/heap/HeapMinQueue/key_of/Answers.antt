use Rattle.rt_queue.proofs.Common.{◌≡◌, ◌<◌, ◌≤◌, length, get_or, sym, arith, nat_tests}
use Rattle.std.proofs.lemmas.List.{get_or_read}
use Rattle.rt_queue.proofs.heap.RowLemmas.{key_at-past, key_at-out, key_at-in}
use Rattle.rt_queue.proofs.heap.heap.HeapMinQueue.key_of.Goals as goal

pub returns-in_err-place : goal.returns-in_err-place
returns-in_err-place c =
    let past : length c.self.inside.keys.items ≤ c.args.number =
    grind (arith, nat_tests, c.in_err-place.ensures.lookup, c.deref.ensures.value, c.self.invariant.keyed, c.self.invariant.inverse.same_length) in
    rw (c.from_residual.ensures, ← c.self.view_is)
    (sym (key_at-past c.self.inside.keys.items c.self.inside.places.items c.self.inside.len c.args.number
    (omega (arith, c.self.invariant.keyed, c.self.invariant.inverse.same_length)) past))

pub returns-then-place-self : goal.returns-then-place-self
returns-then-place-self c =
    let same : length c.self.inside.places.items ≡ length c.self.inside.keys.items =
    omega (arith, c.self.invariant.keyed, c.self.invariant.inverse.same_length) in
    let below : c.args.number < length c.self.inside.keys.items =
    grind (arith, nat_tests, c.in_ok-place.ensures.lookup, c.deref.ensures.value, same) in
    let place : c.in_ok-place.field-0.now ≡ get_or c.self.inside.places.items c.args.number 0 =
    get_or_read c.self.inside.places.items c.args.number c.in_ok-place.field-0.now (omega (arith, below, same))
    (rw c.deref.ensures.value at c.in_ok-place.ensures.lookup.1) 0 in
    rw (← c.self.view_is)
    (sym (key_at-out c.self.inside.keys.items c.self.inside.places.items c.self.inside.len c.args.number below same (omega (arith, place))))

pub returns : goal.returns
returns c =
    let same : length c.self.inside.places.items ≡ length c.self.inside.keys.items =
    omega (arith, c.self.invariant.keyed, c.self.invariant.inverse.same_length) in
    let below : c.args.number < length c.self.inside.keys.items =
    grind (arith, nat_tests, c.in_ok-place.ensures.lookup, c.deref.ensures.value, same) in
    let place : c.in_ok-place.field-0.now ≡ get_or c.self.inside.places.items c.args.number 0 =
    get_or_read c.self.inside.places.items c.args.number c.in_ok-place.field-0.now (omega (arith, below, same))
    (rw c.deref.ensures.value at c.in_ok-place.ensures.lookup.1) 0 in
    let key : c.index.result.now ≡ get_or c.self.inside.keys.items c.args.number 0 =
    get_or_read c.self.inside.keys.items c.args.number c.index.result.now below c.index.ensures 0 in
    rw (← c.self.view_is, key)
    (sym (key_at-in c.self.inside.keys.items c.self.inside.places.items c.self.inside.len c.args.number below same (omega (arith, place))))
