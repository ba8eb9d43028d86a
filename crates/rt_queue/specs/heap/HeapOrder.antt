-- The order of a binary heap (Williams 1964): no entry comes before the one above it. Where one entry is being moved, that
-- holds but for it.
use Rattle.std.specs.Prelude.{◌≡◌, ◌≢◌, ℕ, ◌-◌, ◌/◌, ◌<◌}
use Rattle.rt_queue.specs.Order.{NotAfter}

-- the place above a place that isn't 0
abbrev pub above : ℕ → ℕ
above place = (place - 1) / 2

-- the places below `len` are a heap
abbrev pub IsOrdered : (ℕ → ℕ × ℕ) → ℕ → Type 0
IsOrdered entry len = (place : ℕ) → 0 < place → place < len → NotAfter (entry (above place)) (entry place)

-- they are a heap but for one entry, which may have to move up
pub record IsRising (entry : ℕ → ℕ × ℕ) (len moving : ℕ) : Type 0 where
  pub within : moving < len
  pub others : (place : ℕ) → 0 < place → place < len → place ≢ moving → NotAfter (entry (above place)) (entry place)
  pub past : (place : ℕ) → 0 < place → place < len → above place ≡ moving → 0 < moving →
      NotAfter (entry (above moving)) (entry place)

-- they are a heap but for one entry, which may have to move down
pub record IsSinking (entry : ℕ → ℕ × ℕ) (len moving : ℕ) : Type 0 where
  pub within : moving < len
  pub others : (place : ℕ) → 0 < place → place < len → above place ≢ moving → NotAfter (entry (above place)) (entry place)
  pub past : (place : ℕ) → 0 < place → place < len → above place ≡ moving → 0 < moving →
      NotAfter (entry (above moving)) (entry place)

-- of the entries right below a place, the first one is at `least`
pub record IsLeastBelow (entry : ℕ → ℕ × ℕ) (len place least : ℕ) : Type 0 where
  pub positive : 0 < least
  pub within : least < len
  pub below : above least ≡ place
  pub first : (other : ℕ) → 0 < other → other < len → above other ≡ place → NotAfter (entry least) (entry other)

-- there is no entry right below a place
abbrev pub IsLeaf : ℕ → ℕ → Type 0
IsLeaf len place = (other : ℕ) → 0 < other → other < len → above other ≢ place
