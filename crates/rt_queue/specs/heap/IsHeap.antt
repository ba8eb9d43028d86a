-- What holds of the rows of each heap.
use Rattle.std.specs.Prelude.{◌≡◌, ℕ, ◌^◌, ◌<◌, ◌≤◌, List, length}
use Rattle.rt_queue.specs.heap.Places.{entry_at, AreInverse}
use Rattle.rt_queue.specs.heap.HeapOrder.{IsOrdered}

-- each number has a key and a place, and the entries at the places below `len` are a heap
pub record IsHeap (keys order places : List ℕ) (len : ℕ) : Type 0 where
  pub keyed : length keys ≡ length order
  pub few : length order < 2 ^ 32
  pub within : len ≤ length order
  pub inverse : AreInverse order places
  pub ordered : IsOrdered (entry_at keys order) len
