-- The ids of tasks: which tasks each means.
use Rattle.std.specs.Prelude.{ℕ, ◌==◌, ◌-◌, Bool, true, false, slice_get, List, [], ◌∷◌, codes, Option, Some, None, if◌then◌else◌}
use Rattle.std.specs.Option.{option_map, unwrap_or}
use Rattle.std.specs.Str.{byte, bytes_eq}
use Rattle.rt_words.specs.Found.{◌>>=◌}
use Rattle.rt_packet.specs.declared.request.ids.Tasks.{Tasks}
use Rattle.rt_packet.specs.declared.request.ids.Tasks.TheVariants.{All, One}
use Rattle.rt_packet.specs.request.Numbers.{cut_at, short_number}

-- task i is the process, and its one thread, of number i + 1; 0 is every one
abbrev pub numbered : ℕ → Tasks
numbered n = if n == 0 then All else One (n - 1)

-- a process or a thread: "-1", which is every one, or a number of 1 to 8 hexadecimal digits
abbrev pub id_part : List ℕ → Option Tasks
id_part text = if bytes_eq text (codes "-1") then Some All else option_map numbered (short_number text)

-- a thread of a process: every one, or the process's own
abbrev pub of_both : Tasks → Tasks → Option Tasks
of_both All thread = Some All
of_both (One i) All = Some (One i)
of_both (One i) (One j) = if i == j then Some (One i) else None

-- "P.T"
abbrev pub both_parts : List ℕ × List ℕ → Option Tasks
both_parts parts = do
  process ← id_part parts.0
  thread ← id_part parts.1
  of_both process thread

-- what stands behind a 'p': "P.T" or "P"
abbrev pub parts_or_one : List ℕ → Option (List ℕ × List ℕ) → Option Tasks
parts_or_one text (Some parts) = both_parts parts
parts_or_one text None = id_part text

abbrev pub in_process : List ℕ → Option Tasks
in_process text = parts_or_one text (cut_at (byte ".") text)

-- "pP.T", "pP" or "T"
abbrev pub tasks_of : List ℕ → Option Tasks
tasks_of [] = None
tasks_of (b ∷ bs) = if b == byte "p" then in_process bs else id_part (b ∷ bs)

-- whether a task is meant
abbrev pub names : Tasks → ℕ → Bool
names All task = true
names (One i) task = i == task

-- whether an id means them where these tasks are listed: all tasks, or one that is listed
abbrev pub is_among : List Bool → Tasks → Bool
is_among listed All = true
is_among listed (One i) = unwrap_or (slice_get listed i) false
