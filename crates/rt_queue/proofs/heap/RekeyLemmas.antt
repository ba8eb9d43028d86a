-- The number at the top of a heap gets another key.
use Rattle.rt_queue.proofs.Common.{◌≡◌, ◌≢◌, ℕ, ◌<◌, List, length, set, get_or, Some, refl, sym, ap, ◌∙◌, arith, get_or-set_same, get_or-set_other, length-set, IsLeast, entry_at, keys_in, above, IsSinking}
use Rattle.rt_queue.proofs.OrderLemmas.{NotAfter-same}
use Rattle.rt_queue.specs.heap.IsHeap.{IsHeap}
use Rattle.rt_queue.proofs.LeastLemmas.{IsLeast-unique}
use Rattle.rt_queue.proofs.heap.RowLemmas.{row-changed, key_at-in, IsIn, keys_in-there, IsLeast-top}

-- the other entries stay as they were
rekeyed-same : (keys order places : List ℕ) (key len p : ℕ) → IsHeap keys order places len → p < len → p ≢ 0 →
    entry_at (set keys (get_or order 0 0) key) order p ≡ entry_at keys order p
rekeyed-same keys order places key len p heap low apart =
    let there : get_or places (get_or order p 0) 0 ≡ p = heap.inverse.number_there p (omega (arith, low, heap.within)) in
    let top : get_or places (get_or order 0 0) 0 ≡ 0 = heap.inverse.number_there 0 (omega (arith, low, heap.within)) in
    let other : get_or order p 0 ≢ get_or order 0 0 = λ e. apart (sym there ∙ (ap (λ k. get_or places k 0) e ∙ top)) in
    ap (λ (k : ℕ). (k, get_or order p 0)) (get_or-set_other keys (get_or order 0 0) (get_or order p 0) key 0 other)

-- so only that one may have to move down
pub rekeyed-sinking : (keys order places : List ℕ) (key len : ℕ) → IsHeap keys order places len → 0 < len →
    IsSinking (entry_at (set keys (get_or order 0 0) key) order) len 0
rekeyed-sinking keys order places key len heap some =
    let next = entry_at (set keys (get_or order 0 0) key) order in
    record {
      within = some;
      others = λ place low high other.
          let above_low : above place < len = omega arith in
          NotAfter-same (entry_at keys order (above place)) (next (above place)) (entry_at keys order place) (next place)
          (rekeyed-same keys order places key len (above place) heap above_low other)
          (rekeyed-same keys order places key len place heap high (λ e. absurd (omega (arith, e, low))))
          (heap.ordered place low high);
      past = λ place low high is deep. absurd (omega (arith, deep));
    }

-- and the row has that key
pub keys_in-rekeyed : (keys order places : List ℕ) (key len : ℕ) → IsHeap keys order places len → 0 < len →
    keys_in (set keys (get_or order 0 0) key) places len ≡ set (keys_in keys places len) (get_or order 0 0) (Some key)
keys_in-rekeyed keys order places key len heap some =
    let n = get_or order 0 0 in
    let next = set keys n key in
    let room : 0 < length order = omega (arith, some, heap.within) in
    let below : n < length keys = omega (arith, heap.inverse.number_below 0 room, heap.keyed) in
    let same_places : length places ≡ length keys = omega (arith, heap.inverse.same_length, heap.keyed) in
    let same_next : length next ≡ length keys = length-set keys n key in
    let there : get_or places n 0 ≡ 0 = heap.inverse.number_there 0 room in
    row-changed keys next places places len len n (Some key) same_places same_next same_places below
    (key_at-in next places len n (omega (arith, below, same_next)) (same_places ∙ sym same_next) (omega (arith, there, some))
    ∙ ap (λ (k : ℕ). Some k) (get_or-set_same keys n key 0 below))
    (λ i low other. (get_or-set_other keys n i key 0 other, refl))

-- a heap with a least entry isn't empty
pub least-some : (keys places : List ℕ) (len : ℕ) (least : ℕ × ℕ) → IsLeast (keys_in keys places len) (Some least) → 0 < len
least-some keys places len least is =
    let there : IsIn keys places len least.1 least.0 = keys_in-there keys places len least.1 least.0 is.0 in
    omega (arith, there.place)

-- and its number is at the top
pub least-first : (keys order places : List ℕ) (len : ℕ) (least : ℕ × ℕ) → IsHeap keys order places len → IsLeast (keys_in keys places len) (Some least) →
    get_or order 0 0 ≡ least.1
least-first keys order places len least heap is =
    let top = IsLeast-top keys order places len heap (least-some keys places len least is) in
    first (entry_at keys order 0) least (IsLeast-unique (keys_in keys places len) (Some (entry_at keys order 0)) (Some least) top is)
  where
    first : (e f : ℕ × ℕ) → Some e ≡ Some f → e.1 ≡ f.1
    first e f same = cc
