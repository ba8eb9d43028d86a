-- A piece of a way back that is looked through from its first tick on.
use Rattle.std.specs.Prelude.{◌≡◌, ℕ, ◌<◌, ◌≤◌, nat_le, if◌then◌else◌, Option, Some, None}

-- m is the last tick from `low` on and before `end` at which something is met, and that is a
pub record IsLastBefore {A : Type 0} (met : ℕ → Option A) (low end m : ℕ) (a : A) : Type 0 where
  pub from : low ≤ m
  pub before : m < end
  pub here : met m ≡ Some a
  pub none_after : (u : ℕ) → m < u → u < end → met u ≡ None

-- the last tick from `low` on and before `end` at which something is met, if there is one
abbrev pub LastBefore : {A : Type 0} → (ℕ → Option A) → ℕ → ℕ → Option (ℕ × A) → Type 0
LastBefore met low end None = (u : ℕ) → low ≤ u → u < end → met u ≡ None
LastBefore met low end (Some last) = IsLastBefore met low end last.0 last.1

-- the last so far, where this is met at tick u
abbrev pub noted : {A : Type 0} → Option (ℕ × A) → ℕ → ℕ → Option A → Option (ℕ × A)
noted last low u None = last
noted last low u (Some a) = if nat_le low u then Some (u, a) else last
