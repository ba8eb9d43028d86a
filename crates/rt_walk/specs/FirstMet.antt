-- The first tick after another at which something is met.
use Rattle.std.specs.Prelude.{◌≡◌, ℕ, ◌+◌, ◌-◌, ◌<◌, ◌≤◌, min, Bool, true, false, Option, Some, None}
use Rattle.rt_words.specs.Limits.{tick_limit}
use Rattle.rt_walk.specs.declared.halt.Sought.{Sought}
use Rattle.rt_walk.specs.declared.halt.Sought.TheVariants.{Met, Unmet, Paused}

-- m is the least tick above t, at most n ticks on, at which something is met, and that is a
pub record IsFirstMet {A : Type 0} (met : ℕ → Option A) (t n : ℕ) (a : A) (m : ℕ) : Type 0 where
  pub later : t < m
  pub within : m ≤ t + n
  pub here : met m ≡ Some a
  pub none_before : (u : ℕ) → t < u → u < m → met u ≡ None

-- nothing is met in the n ticks after t, or those up to tick 2^40, of which m is the last
pub record IsNoneMet {A : Type 0} (met : ℕ → Option A) (t n m : ℕ) : Type 0 where
  pub end : m ≡ t + min n (tick_limit - t)
  pub none : (u : ℕ) → t < u → u ≤ m → met u ≡ None

-- nothing is met after t up to m, which comes before the last of the n ticks on, or of those up to tick 2^40
pub record IsNoneSoFar {A : Type 0} (met : ℕ → Option A) (t n m : ℕ) : Type 0 where
  pub later : t < m
  pub before : m < t + min n (tick_limit - t)
  pub none : (u : ℕ) → t < u → u ≤ m → met u ≡ None

-- where a walk that goes on from tick t for at most n ticks stands still, and what it meets there
abbrev pub Seeks : {A : Type 0} → (ℕ → Option A) → ℕ → ℕ → Option A → ℕ → Type 0
Seeks met t n (Some a) m = IsFirstMet met t n a m
Seeks met t n None m = IsNoneMet met t n m

-- the same of a walk that may pause on the way, only where its pace has asked for that
abbrev pub SeeksOrPauses : {A : Type 0} → Bool → (ℕ → Option A) → ℕ → ℕ → Sought A → ℕ → Type 0
SeeksOrPauses has_paused met t n (Met a) m = Seeks met t n (Some a) m
SeeksOrPauses has_paused met t n Unmet m = Seeks met t n None m
SeeksOrPauses has_paused met t n Paused m = (has_paused ≡ true) × IsNoneSoFar met t n m

-- how far such a walk has come, wherever it began
abbrev pub Moves : {A : Type 0} → ℕ → ℕ → Sought A → ℕ → Type 0
Moves t n (Met a) m = (t < m) × (m ≤ t + n)
Moves t n Unmet m = m ≡ t + min n (tick_limit - t)
Moves t n Paused m = (t < m) × (m ≤ t + n)

-- whether nothing was met, nor was there a pause
abbrev pub is_unmet : {A : Type 0} → Sought A → Bool
is_unmet Unmet = true
is_unmet _ = false

-- whether there was a pause
abbrev pub is_paused : {A : Type 0} → Sought A → Bool
is_paused Paused = true
is_paused _ = false
