-- Visits of tasks at a time: what they leave, and the lines that they offer.
use Rattle.std.specs.Prelude.{◌≡◌, ℕ, List, [], slice_get, slice_set, Option, Some, None}
use Rattle.std.specs.Option.{option_map_or}
use Rattle.rt_history.specs.declared.record.Record.{Record}
use Rattle.rt_history.specs.declared.record.Record.TheVariants.{Idle, Busy}
use Rattle.rt_waves.specs.declared.block.Telling.{Telling}
use Rattle.rt_waves.specs.Waves.{outcome_of}
use Rattle.rt_waves.specs.Standing.{TaskStanding}
use Rattle.rt_waves.specs.Working.Stepped.{seen, visited, lines_of}

-- the task whose record it is
abbrev pub runs : Record → Option ℕ
runs Idle = None
runs (Busy a) = Some a.task

-- a visit of task i
abbrev pub visited_at : ℕ → Record → ℕ → List TaskStanding → List TaskStanding
visited_at u r i xs = option_map_or (λ x. slice_set xs i (visited u (outcome_of i r) x)) (slice_get xs i) xs

abbrev pub lines_by : Telling → ℕ → Record → ℕ → List TaskStanding → List ℕ
lines_by telling u r i xs = option_map_or (λ x. lines_of telling i x.told (seen u (outcome_of i r) x)) (slice_get xs i) []

-- a visit of task i leaves it as it is
abbrev pub Stays : ℕ → Record → ℕ → TaskStanding → Type 0
Stays u r i x = visited u (outcome_of i r) x ≡ x
