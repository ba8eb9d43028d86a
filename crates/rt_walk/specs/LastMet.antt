-- What is met on the way back, and the last tick at which something is.
use Rattle.std.specs.Prelude.{◌≡◌, ℕ, ◌-◌, ◌<◌, ◌≤◌, ◌==◌, ◌&&◌, nat_lt, not, if◌then◌else◌, Bool, true, false, Option, Some, None}
use Rattle.rt_image.specs.SystemFile.{TaskSet}
use Rattle.rt_history.specs.declared.record.Record.{Record}
use Rattle.rt_history.specs.MachineState.{MachineState}
use Rattle.rt_history.specs.Legal.{state_at}
use Rattle.rt_walk.specs.Jobs.{Stand}
use Rattle.rt_walk.specs.Met.{ahead_of, behind_at, first_of}
use Rattle.rt_walk.specs.declared.back.Last.{Last}
use Rattle.rt_walk.specs.declared.back.Last.TheVariants.{Met, Unmet, Paused}

-- what is met at tick m of a way back from tick `now` by the tick before: by its attempt, which may be passed by where the way begins,
-- else behind it, but for where the way begins
abbrev pub left_at : {A : Type 0} → (ℕ → ℕ → MachineState → Option A) → (MachineState → Record → Stand → Option A) → Bool → Stand → TaskSet → ℕ → ℕ → Option A
left_at left behind passes begin set now m =
    first_of (if not (passes && (m == now)) then ahead_of left (state_at set (m - 1)) else None) (if nat_lt m now then behind_at behind begin set m else None)

-- What is met there, where the way may lead to `first`: by the attempt that comes, but for that at which it begins; else by the tick before.
abbrev pub back_at : {A : Type 0} → (ℕ → ℕ → MachineState → Option A) → (ℕ → ℕ → MachineState → Option A) → (MachineState → Record → Stand → Option A)
    → Bool → Stand → TaskSet → ℕ → ℕ → ℕ → Option A
back_at here left behind passes begin set first now m =
    first_of (if nat_lt m now then ahead_of here (state_at set m) else None) (if nat_lt first m then left_at left behind passes begin set now m else None)

-- m is the greatest tick from `low` to `now` at which something is met, and that is a
pub record IsLastMet {A : Type 0} (met : ℕ → Option A) (low now : ℕ) (a : A) (m : ℕ) : Type 0 where
  pub from : low ≤ m
  pub within : m ≤ now
  pub here : met m ≡ Some a
  pub none_after : (u : ℕ) → m < u → u ≤ now → met u ≡ None

abbrev pub AreNone : {A : Type 0} → (ℕ → Option A) → ℕ → ℕ → Type 0
AreNone met low now = (u : ℕ) → low ≤ u → u ≤ now → met u ≡ None

-- whether it paused
abbrev pub has_pause : {A : Type 0} → Last A → Bool
has_pause (Paused m) = true
has_pause _ = false

-- what a look back from `now` to `low` finds; where it pauses, its pace has asked for that, and nothing is met down to that tick
abbrev pub LooksBack : {A : Type 0} → Bool → (ℕ → Option A) → ℕ → ℕ → Last A → Type 0
LooksBack has_paused met low now (Met m a) = IsLastMet met low now a m
LooksBack has_paused met low now Unmet = AreNone met low now
LooksBack has_paused met low now (Paused m) = (has_paused ≡ true) × (low < m) × (m < now) × AreNone met m now
