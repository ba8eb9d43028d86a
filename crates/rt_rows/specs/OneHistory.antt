-- What makes a history legal, seen from the history itself.
use Rattle.std.specs.Prelude.{◌≡◌, ℕ, List, take, slice_get, Some}
use Rattle.rt_image.specs.SystemFile.{TaskSet}
use Rattle.rt_history.specs.declared.record.Record.{Record}
use Rattle.rt_history.specs.Legal.{record_at, stands_after}

-- each record is what the records before it name
abbrev pub IsLegal : TaskSet → List Record → Type 0
IsLegal set history =
    (u : ℕ) (r : Record) → slice_get history u ≡ Some r → r ≡ record_at (stands_after set u (take u history))
