use Rattle.rt_queue.proofs.Common.{◌≡◌, ◌≢◌, ◌∙◌, ℕ, ◌<◌, length, get_or, set, ap, sym, subst, arith, above, NotAfter, entry_at, keys_in, AreInverse}
use Rattle.rt_queue.proofs.heap.HeapOrderLemmas.{rising-end}
use Rattle.rt_queue.proofs.heap.PlacesLemmas.{AreInverse-moved, keys_in-moved}
use Rattle.rt_queue.proofs.heap.SiftLemmas.{entry-read, rise_ends, rise_once}
use Rattle.rt_queue.proofs.heap.sift.sift_up.Goals as goal
use Rattle.rt_queue.proofs.heap.sift.sift_up.Goals.{else-loop-hole-test, then-loop-hole-test+then-not-comes_before}

pub loop-hole-preserved : goal.loop-hole-preserved
loop-hole-preserved c =
    let positive : 0 < c.loop-hole.hole = omega (arith, c.loop-hole-test.true) in
    let low : c.loop-hole.hole < length c.loop-hole.order = omega arith in
    let high : above c.loop-hole.hole < length c.loop-hole.order = omega arith in
    let apart : c.loop-hole.hole ≢ above c.loop-hole.hole = λ same. absurd (omega (arith, same)) in
    let number : get_or c.loop-hole.order (above c.loop-hole.hole) 0 ≡ c.entry-upper.result.1 = sym (ap (λ (e : ℕ × ℕ). e.1) c.entry-upper.ensures) in
    let is_moving : c.entry-moving.result ≡ (get_or c.args.keys.now c.entry-moving.result.1 0, c.entry-moving.result.1) =
    entry-read c.args.keys.now c.args.order.now c.args.from c.entry-moving.result c.entry-moving.ensures in
    let before : NotAfter c.entry-moving.result c.entry-upper.result = c.if-not-comes_before.ensures in
    record {
      within = omega arith;
      inverse = subst (λ n. AreInverse (set (set c.loop-hole.order c.loop-hole.hole n) (above c.loop-hole.hole) c.entry-moving.result.1)
          (set (set c.loop-hole.places n c.loop-hole.hole) c.entry-moving.result.1 (above c.loop-hole.hole))) number
          (AreInverse-moved c.loop-hole.order c.loop-hole.places c.loop-hole.hole (above c.loop-hole.hole) c.entry-moving.result.1 low high apart
          c.loop-hole.invariant.inverse);
      rising = λ len start.
          rise_once c.args.keys.now c.loop-hole.order c.loop-hole.hole c.entry-moving.result c.entry-upper.result positive low is_moving
          c.entry-upper.ensures before len (c.loop-hole.invariant.rising len start);
      present = λ len room.
          subst (λ n. keys_in c.args.keys.now (set (set c.loop-hole.places n c.loop-hole.hole) c.entry-moving.result.1 (above c.loop-hole.hole)) len
          ≡ keys_in c.args.keys.now (set c.loop-hole.places c.entry-moving.result.1 c.loop-hole.hole) len) number
          (keys_in-moved c.args.keys.now c.loop-hole.order c.loop-hole.places c.loop-hole.hole (above c.loop-hole.hole) c.entry-moving.result.1 len
          low high apart (omega arith) (omega arith) c.loop-hole.invariant.inverse)
          ∙ c.loop-hole.invariant.present len room;
    }

-- where the loop ends, the moving entry fits
pub returns-clause-ordered : goal.returns-clause-ordered
returns-clause-ordered c = λ len rising.
    let low : c.loop-hole.hole < length c.loop-hole.order = omega arith in
    let is_moving : c.entry-moving.result ≡ (get_or c.args.keys.now c.entry-moving.result.1 0, c.entry-moving.result.1) =
    entry-read c.args.keys.now c.args.order.now c.args.from c.entry-moving.result c.entry-moving.ensures in
    rising-end (entry_at c.args.keys.now (set c.loop-hole.order c.loop-hole.hole c.entry-moving.result.1)) len c.loop-hole.hole
    (c.loop-hole.invariant.rising len rising)
    (λ positive. elim c.loop-hole-test.branch [
      | else-loop-hole-test w ↦ absurd (omega arith)
      | then-loop-hole-test+then-not-comes_before w ↦
          rise_ends c.args.keys.now c.loop-hole.order c.loop-hole.hole c.entry-moving.result w.entry-upper.result positive low
          is_moving w.entry-upper.ensures w.if-not-comes_before.ensures
    ])
