use Rattle.rt_queue.proofs.Common.{◌≡◌, ◌≢◌, ◌∙◌, ℕ, ◌<◌, length, get_or, set, ap, sym, subst, arith, IsLeastBelow, NotAfter, entry_at, keys_in, AreInverse}
use Rattle.rt_queue.proofs.heap.HeapOrderLemmas.{least-apart}
use Rattle.rt_queue.proofs.heap.PlacesLemmas.{AreInverse-moved, keys_in-moved, number-below}
use Rattle.rt_queue.proofs.heap.SiftLemmas.{entry-read, sink_once}
use Rattle.rt_queue.proofs.heap.sift.sift_down.Goals as goal

pub loop-below-preserved : goal.loop-below-preserved
loop-below-preserved c =
    let below : IsLeastBelow (entry_at c.args.keys.now c.loop-below.order) c.args.len c.loop-below.hole c.in-Some.below = c.in-Some.ensures in
    let place_in : c.in-Some.below < c.args.len = below.within in
    let hole_in : c.loop-below.hole < c.args.len = c.loop-below.invariant.sinking.within in
    let low : c.loop-below.hole < length c.loop-below.order = omega arith in
    let high : c.in-Some.below < length c.loop-below.order = omega arith in
    let apart : c.loop-below.hole ≢ c.in-Some.below = least-apart (entry_at c.args.keys.now c.loop-below.order) c.args.len c.loop-below.hole c.in-Some.below below in
    let number : get_or c.loop-below.order c.in-Some.below 0 ≡ c.entry-lower.result.1 = sym (ap (λ (e : ℕ × ℕ). e.1) c.entry-lower.ensures) in
    let is_moving : c.entry-moving.result ≡ (get_or c.args.keys.now c.entry-moving.result.1 0, c.entry-moving.result.1) =
    entry-read c.args.keys.now c.args.order.now c.args.from c.entry-moving.result c.entry-moving.ensures in
    let before : NotAfter c.entry-lower.result c.entry-moving.result = c.if-not-comes_before.ensures in
    record {
      inverse = subst (λ n. AreInverse (set (set c.loop-below.order c.loop-below.hole n) c.in-Some.below c.entry-moving.result.1)
          (set (set c.loop-below.places n c.loop-below.hole) c.entry-moving.result.1 c.in-Some.below)) number
          (AreInverse-moved c.loop-below.order c.loop-below.places c.loop-below.hole c.in-Some.below c.entry-moving.result.1 low high apart
          c.loop-below.invariant.inverse);
      sinking =
          sink_once c.args.keys.now c.loop-below.order c.loop-below.hole c.in-Some.below c.args.len c.entry-moving.result c.entry-lower.result
          (omega arith) is_moving c.entry-lower.ensures below before c.loop-below.invariant.sinking;
      present =
          subst (λ n. keys_in c.args.keys.now (set (set c.loop-below.places n c.loop-below.hole) c.entry-moving.result.1 c.in-Some.below) c.args.len
          ≡ keys_in c.args.keys.now (set c.loop-below.places c.entry-moving.result.1 c.loop-below.hole) c.args.len) number
          (keys_in-moved c.args.keys.now c.loop-below.order c.loop-below.places c.loop-below.hole c.in-Some.below c.entry-moving.result.1 c.args.len
          low high apart hole_in place_in c.loop-below.invariant.inverse)
          ∙ c.loop-below.invariant.present;
    }

pub entry-lower-requires-clause-number : goal.entry-lower-requires-clause-number
entry-lower-requires-clause-number c =
    let below : IsLeastBelow (entry_at c.args.keys.now c.loop-below.order) c.args.len c.loop-below.hole c.in-Some.below = c.in-Some.ensures in
    let apart : c.loop-below.hole ≢ c.in-Some.below = least-apart (entry_at c.args.keys.now c.loop-below.order) c.args.len c.loop-below.hole c.in-Some.below below in
    let within : c.in-Some.below < length c.loop-below.order = omega (arith, below.within) in
    omega (arith, number-below c.loop-below.order c.loop-below.places c.loop-below.hole c.in-Some.below c.entry-moving.result.1 apart within c.loop-below.invariant.inverse)

pub bounds-places-lower : goal.bounds-places-lower
bounds-places-lower c =
    let below : IsLeastBelow (entry_at c.args.keys.now c.loop-below.order) c.args.len c.loop-below.hole c.in-Some.below = c.in-Some.ensures in
    let apart : c.loop-below.hole ≢ c.in-Some.below = least-apart (entry_at c.args.keys.now c.loop-below.order) c.args.len c.loop-below.hole c.in-Some.below below in
    let within : c.in-Some.below < length c.loop-below.order = omega (arith, below.within) in
    let number : c.entry-lower.result.1 ≡ get_or c.loop-below.order c.in-Some.below 0 = ap (λ (e : ℕ × ℕ). e.1) c.entry-lower.ensures in
    omega (arith, number, number-below c.loop-below.order c.loop-below.places c.loop-below.hole c.in-Some.below c.entry-moving.result.1 apart within c.loop-below.invariant.inverse)
