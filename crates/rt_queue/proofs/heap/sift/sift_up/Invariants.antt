use Rattle.rt_queue.proofs.Common.{◌≡◌, ℕ, ◌<◌, ◌≤◌, set, IsRising, entry_at, keys_in, AreInverse}
use Rattle.rt_queue.proofs.heap.sift.sift_up.Given as goal

-- with the moving entry written into the hole, the rows are as the clauses say
abbrev pub invariant-loop-hole : goal.invariant-loop-hole
invariant-loop-hole l = record {
  within : l.hole ≤ l.from;
  inverse : AreInverse (set l.order l.hole l.moving.1) (set l.places l.moving.1 l.hole);
  rising : (len : ℕ) → IsRising (entry_at l.keys l.initial.order) len l.from →
      IsRising (entry_at l.keys (set l.order l.hole l.moving.1)) len l.hole;
  present : (len : ℕ) → l.from < len →
      keys_in l.keys (set l.places l.moving.1 l.hole) len ≡ keys_in l.keys l.initial.places len;
}

abbrev pub decreases-loop-hole : goal.decreases-loop-hole
decreases-loop-hole l = l.hole
