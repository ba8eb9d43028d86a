-- The order of entries, each a key with its number: by key, then by number.
use Rattle.std.specs.Prelude.{◌≡◌, ℕ, ◌≤◌, ◌==◌, ◌&&◌, ◌||◌, nat_lt, if◌then◌else◌, Option, None, Some}

-- an entry comes no later than another: its key is less, or equal with a number that is no greater
pub record NotAfter (entry other : ℕ × ℕ) : Type 0 where
  pub by_key : entry.0 ≤ other.0
  pub by_number : entry.0 ≡ other.0 → entry.1 ≤ other.1

-- of an entry and another, if there is one, the one that comes first
abbrev pub earlier : ℕ × ℕ → Option (ℕ × ℕ) → ℕ × ℕ
earlier entry None = entry
earlier entry (Some other) =
    if nat_lt other.0 entry.0 || (other.0 == entry.0 && nat_lt other.1 entry.1) then other else entry
