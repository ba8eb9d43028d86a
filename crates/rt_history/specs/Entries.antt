-- A history as entries: each busy tick, and each longest stretch of idle ones.
use Rattle.std.specs.Prelude.{◌≡◌, ℕ, ◌+◌, ◌<◌, List, [], ◌∷◌, ◌++◌, replicate}
use Rattle.rt_image.specs.SystemFile.{TaskSet}
use Rattle.rt_history.specs.declared.record.Record.{Record}
use Rattle.rt_history.specs.declared.record.Record.TheVariants as records
use Rattle.rt_history.specs.declared.record.Entry.{Entry}
use Rattle.rt_history.specs.declared.record.Entry.TheVariants.{Busy, Idle}
use Rattle.rt_history.specs.Legal.{legal}

-- the tick at which an entry begins, its ticks, and its records
abbrev pub start_of : Entry → ℕ
start_of (Busy t rec) = t
start_of (Idle t n) = t

abbrev pub ticks_of : Entry → ℕ
ticks_of (Busy t rec) = 1
ticks_of (Idle t n) = n

abbrev pub records_of : Entry → List Record
records_of (Busy t rec) = records.Busy rec ∷ []
records_of (Idle t n) = replicate n records.Idle

-- the entry is of one of n tasks
abbrev pub IsEntryOf : ℕ → Entry → Type 0
IsEntryOf n (Busy t rec) = rec.task < n
IsEntryOf n (Idle t k) = Unit {0}

-- the legal history of a set goes on from tick t by this entry
abbrev pub GoesOnBy : TaskSet → ℕ → Entry → Type 0
GoesOnBy set t entry = legal set (t + ticks_of entry) ≡ legal set t ++ records_of entry

-- an idle tick at t before these entries: one stretch with the idle ticks that follow
abbrev pub idle_before : ℕ → List Entry → List Entry
idle_before t (Idle _ n ∷ later) = Idle t (n + 1) ∷ later
idle_before t (Busy u rec ∷ later) = Idle t 1 ∷ Busy u rec ∷ later
idle_before t [] = Idle t 1 ∷ []

-- the entries of records, of which the first is tick t
abbrev pub entries_from : ℕ → List Record → List Entry
entries_from t [] = []
entries_from t (records.Busy rec ∷ later) = Busy t rec ∷ entries_from (t + 1) later
entries_from t (records.Idle ∷ later) = idle_before t (entries_from (t + 1) later)

abbrev pub entries : List Record → List Entry
entries history = entries_from 0 history
