-- The places of a heap: each number has one, and the numbers at those below its length are in the queue.
use Rattle.std.specs.Prelude.{◌≡◌, ℕ, ◌<◌, nat_lt, if◌then◌else◌, List, [], ◌∷◌, length, slice_index, Option, None, Some}

-- the entry at a place: the number that `order` has there, with its key
abbrev pub entry_at : List ℕ → List ℕ → ℕ → ℕ × ℕ
entry_at keys order place = (slice_index keys (slice_index order place), slice_index order place)

-- `order` has each number once, and `places` says where
pub record AreInverse (order places : List ℕ) : Type 0 where
  pub same_length : length places ≡ length order
  pub number_below : (place : ℕ) → place < length order → slice_index order place < length order
  pub place_below : (number : ℕ) → number < length order → slice_index places number < length order
  pub number_there : (place : ℕ) → place < length order → slice_index places (slice_index order place) ≡ place
  pub place_of : (number : ℕ) → number < length order → slice_index order (slice_index places number) ≡ number

-- the row of keys that a heap stands for: a number has its key where its place is below the heap's length
abbrev pub keys_in : List ℕ → List ℕ → ℕ → List (Option ℕ)
keys_in [] places len = []
keys_in (key ∷ keys) [] len = []
keys_in (key ∷ keys) (place ∷ places) len =
    (if nat_lt place len then Some key else None) ∷ keys_in keys places len
