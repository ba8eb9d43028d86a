-- A sink of limited room, which reports its bytes.
use Rattle.std.specs.Prelude.{ℕ, ◌-◌, min, List, [], ◌++◌, length, take, Some, Bool, true, false, not, ◌&&◌, ◌==◌, if◌then◌else◌}
use Rattle.rt_sink.specs.Seen.{Seen}
use Rattle.rt_sink.specs.declared.sink.Put.{Put}
use Rattle.rt_sink.specs.declared.sink.Put.TheVariants.{Taken, Failed}

-- how many bytes it takes at most in one put and in all, those that it has taken, and whether it has failed
pub record LimitedSink : Type 0 where
  pub per_put : ℕ
  pub room : ℕ
  pub taken : List ℕ
  pub has_failed : Bool

-- what is seen of it
abbrev pub seen : LimitedSink → Seen
seen l = record { failed = l.has_failed; contents = Some l.taken }

-- a new one has taken nothing
abbrev pub opened : ℕ → ℕ → LimitedSink
opened per_put room = record { per_put = per_put; room = room; taken = []; has_failed = false }

-- it fails at a nonempty slice that finds no room left, and stays so
abbrev pub refuses : LimitedSink → List ℕ → Bool
refuses l bytes = if l.has_failed then true else not (length bytes == 0) && (length l.taken == l.room)

-- how many of the bytes it takes: all that neither limit forbids
abbrev pub taken_count : LimitedSink → List ℕ → ℕ
taken_count l bytes = min (length bytes) (min l.per_put (l.room - length l.taken))

-- what a put answers
abbrev pub limited_answer : LimitedSink → List ℕ → Put
limited_answer l bytes = if refuses l bytes then Failed else Taken (taken_count l bytes)

-- and the sink after it
abbrev pub limited_after : LimitedSink → List ℕ → LimitedSink
limited_after l bytes = if refuses l bytes then record l { has_failed = true } else record l { taken = l.taken ++ take (taken_count l bytes) bytes }
