-- The stops of a session by number: the first stands at the head, and a deleted one leaves its place empty.
use Rattle.std.specs.Prelude.{◌≡◌, ℕ, zero, suc, ◌+◌, nat_lt, ◌<◌, Bool, true, false, if◌then◌else◌, List, [], ◌∷◌, ◌++◌, length, slice_get, slice_set, Option, Some, None, Result, Ok, Err}
use Rattle.rt_debug.specs.PlaceStop.{is_at}
use Rattle.rt_debug.specs.declared.stops.AnyStop.{AnyStop}
use Rattle.rt_debug.specs.declared.stops.AnyStop.TheVariants.{Place, Boxed}
use Rattle.rt_command.specs.declared.refusal.Refusal.{Refusal}
use Rattle.rt_command.specs.declared.refusal.Refusal.TheVariants.{NoMemory, NoSuchStop, TooManyStops}

-- the stops over a session's life
abbrev pub stop_limit : ℕ
stop_limit = 65535

-- what a stop of a session meets: its place, or what a stop of the caller's own does
abbrev pub meets_of : {B : Type 0} → (B → ℕ → ℕ → Bool) → AnyStop B → ℕ → ℕ → Bool
meets_of meets (Place place) = is_at place
meets_of meets (Boxed stop) = meets stop

-- there is a stop, and it is met
abbrev pub is_hit : {B : Type 0} → (B → Bool) → Option B → Bool
is_hit met None = false
is_hit met (Some stop) = met stop

-- the least number of a stop that is met, where the first of these has number k
abbrev pub hit_from : {B : Type 0} → (B → Bool) → ℕ → List (Option B) → Option ℕ
hit_from met k [] = None
hit_from met k (slot ∷ slots) = if is_hit met slot then Some k else hit_from met (k + 1) slots

-- one stop more takes the next number, unless all are used or memory runs out
abbrev pub Adds : {B : Type 0} → B → List (Option B) → Result ℕ Refusal → List (Option B) → Type 0
Adds stop old (Ok k) new = (k ≡ length old + 1) × (length old < stop_limit) × (new ≡ old ++ Some stop ∷ [])
Adds stop old (Err refusal) new = (refusal ≡ (if nat_lt (length old) stop_limit then NoMemory else TooManyStops)) × (new ≡ old)

-- the same, where what is handed in is handed back if its stop isn't added
abbrev pub HandsBack : {H B : Type 0} → H → B → List (Option B) → Result ℕ (H × Refusal) → List (Option B) → Type 0
HandsBack held stop old (Ok k) new = Adds stop old (Ok k) new
HandsBack held stop old (Err back) new = (back.0 ≡ held) × Adds stop old (Err back.1) new

abbrev pub has_stop : {B : Type 0} → Option (Option B) → Bool
has_stop (Some (Some stop)) = true
has_stop _ = false

-- whether a stop of this number can be deleted
abbrev pub deletes : {B : Type 0} → List (Option B) → ℕ → Result (Unit {0}) Refusal
deletes slots zero = Err NoSuchStop
deletes slots (suc place) = if has_stop (slice_get slots place) then Ok tt else Err NoSuchStop

-- and what that leaves
abbrev pub slots_after : {B : Type 0} → List (Option B) → ℕ → List (Option B)
slots_after slots zero = slots
slots_after slots (suc place) = if has_stop (slice_get slots place) then slice_set slots place None else slots
