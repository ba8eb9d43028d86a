-- The marks of stops at places.
use Rattle.std.specs.Prelude.{◌≡◌, Bool, true, ℕ, List, Option, Some}
use Rattle.std.specs.List.{All}
use Rattle.rt_points.specs.Marks.{is_marked}
use Rattle.rt_debug.specs.declared.stops.AnyStop.{AnyStop}
use Rattle.rt_debug.specs.declared.stops.AnyStop.TheVariants.{Place}

-- whether a stop for a place has its mark; no other needs one
abbrev pub has_mark : {B : Type 0} → List ℕ → Option (AnyStop B) → Bool
has_mark words (Some (Place place)) = is_marked words place.task place.pc
has_mark words _ = true

-- each of these does
abbrev pub HaveMarks : {B : Type 0} → List ℕ → List (Option (AnyStop B)) → Type 0
HaveMarks words slots = All (λ slot. has_mark words slot ≡ true) slots
