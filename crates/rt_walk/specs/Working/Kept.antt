-- The positions that are kept on the way of a session, and how far apart they are.
use Rattle.std.specs.Prelude.{◌≡◌, ◌⊎◌, ℕ, ◌+◌, ◌*◌, ◌<◌, ◌≤◌, List, [], ◌∷◌, length}
use Rattle.rt_words.specs.Limits.{tick_limit}
use Rattle.rt_walk.specs.Position.{PositionState}

-- the tick at which a position stands
abbrev pub tick_of : PositionState → ℕ
tick_of p = p.machine.tick

-- how far apart they are at first
abbrev pub first_distance : ℕ
first_distance = 65536

-- they are at the ticks first, first + distance, first + 2 distance, ..
abbrev pub AreSpaced : {P : Type 0} → (P → ℕ) → ℕ → ℕ → List P → Type 0
AreSpaced tick distance first [] = Unit {0}
AreSpaced tick distance first (p ∷ ps) = (tick p ≡ first) × AreSpaced tick distance (first + distance) ps

-- the tick at which one more is due
abbrev pub due_after : {P : Type 0} → ℕ → ℕ → List P → ℕ
due_after distance first [] = first
due_after distance first (p ∷ ps) = due_after distance (first + distance) ps

-- One is kept at each multiple of the distance above the start, up to the tick at which one more is due. The distance is the first
-- one, or half as many are kept as may be.
pub record AreKept {P : Type 0} (tick : P → ℕ) (start due distance most : ℕ) (places : List P) : Type 0 where
  pub first : ℕ
  pub times : ℕ
  pub multiple : first ≡ times * distance
  pub above : start < first
  pub near : first ≤ start + distance
  pub spaced : AreSpaced tick distance first places
  pub next : due ≡ due_after distance first places
  pub end : due ≤ tick_limit + distance
  pub many : (distance ≡ first_distance) ⊎ (most ≤ 2 * length places + 1)
