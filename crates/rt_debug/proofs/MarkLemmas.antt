-- What a mark more does to the stops of places.
use Rattle.std.proofs.Common.{◌≡◌, ℕ, true, false, true≢false, List, get_or, Option, Some, None, Result, Ok, Err, refl}
use Rattle.std.specs.Prelude.{OnOk, is_err}
use Rattle.rt_points.specs.Marks.{is_marked}
use Rattle.rt_debug.specs.declared.stops.AnyStop.{AnyStop}
use Rattle.rt_debug.specs.declared.stops.AnyStop.TheVariants.{Place, Boxed}
use Rattle.rt_debug.specs.Working.Marks.{has_mark, HaveMarks}

still : {B : Type 0} (old new : List ℕ) (slot : Option (AnyStop B)) → ((task pc : ℕ) → is_marked old task pc ≡ true → is_marked new task pc ≡ true) → has_mark old slot ≡ true → has_mark new slot ≡ true
still old new None kept marked = refl
still old new (Some (Place place)) kept marked = kept place.task place.pc marked
still old new (Some (Boxed stop)) kept marked = refl

pub all_still : {B : Type 0} (old new : List ℕ) (slots : List (Option (AnyStop B))) → ((task pc : ℕ) → is_marked old task pc ≡ true → is_marked new task pc ≡ true) → HaveMarks old slots → HaveMarks new slots
all_still old new slots kept marked = λ k d within. still old new (get_or slots k d) kept (marked k d within)

-- what holds where a mark found memory
pub when_ok : {X E : Type 0} (result : Result X E) (P : Type 0) → is_err result ≡ false → OnOk result P → P
when_ok (Ok x) P ok holds = holds
when_ok (Err e) P ok holds = absurd (true≢false ok)
