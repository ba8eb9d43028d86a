use Rattle.rt_queue.proofs.Common.{◌≡◌, ◌-◌, set, IsSinking, entry_at, keys_in, AreInverse}
use Rattle.rt_queue.proofs.heap.sift.sift_down.Given as goal

-- with the moving entry written into the hole, the rows are as the clauses say
abbrev pub invariant-loop-below : goal.invariant-loop-below
invariant-loop-below l = record {
  inverse : AreInverse (set l.order l.hole l.moving.1) (set l.places l.moving.1 l.hole);
  sinking : IsSinking (entry_at l.keys (set l.order l.hole l.moving.1)) l.len l.hole;
  present : keys_in l.keys (set l.places l.moving.1 l.hole) l.len ≡ keys_in l.keys l.initial.places l.len;
}

abbrev pub decreases-loop-below : goal.decreases-loop-below
decreases-loop-below l = l.len - l.hole
