-- The least entry of a row of keys, as a relation and computed.
use Rattle.std.specs.Prelude.{◌≡◌, ℕ, ◌+◌, List, [], ◌∷◌, Option, None, Some}
use Rattle.rt_queue.specs.Keys.{key_at}
use Rattle.rt_queue.specs.Order.{NotAfter, earlier}

-- the least entry of a row of keys, as its key and its number; none where there is no key (by deadline this is earliest
-- deadline first, Liu and Layland 1973, with ties to the lesser number)
abbrev pub IsLeast : List (Option ℕ) → Option (ℕ × ℕ) → Type 0
IsLeast keys None = (number : ℕ) → key_at keys number ≡ None
IsLeast keys (Some least) =
    (key_at keys least.1 ≡ Some least.0)
    × ((number key : ℕ) → key_at keys number ≡ Some key → NotAfter least (key, number))

-- the least entry of a row of keys, found from its end; the row's first key has this number
abbrev pub least_from : ℕ → List (Option ℕ) → Option (ℕ × ℕ)
least_from number [] = None
least_from number (None ∷ keys) = least_from (number + 1) keys
least_from number (Some key ∷ keys) = Some (earlier (key, number) (least_from (number + 1) keys))
