-- When a task misses a deadline: the deadline passes while its server has budget left. In an admitted set none does.
use Rattle.std.specs.Prelude.{ℕ, ◌+◌, ◌-◌, nat_le, if◌then◌else◌, Bool, false, Option, None, Some, List, [], ◌∷◌, find}
use Rattle.std.specs.List.{range_with_len}
use Rattle.std.specs.Option.{option_map, option_or}
use Rattle.rt_server.specs.Account.{Account}
use Rattle.rt_image.specs.SystemFile.{SetTask}
use Rattle.rt_history.specs.declared.mode.Mode.{Mode}
use Rattle.rt_history.specs.declared.mode.Mode.TheVariants.{Active}
use Rattle.rt_history.specs.declared.record.AttemptOutcome.{AttemptOutcome}
use Rattle.rt_history.specs.Serving.{Serving, due, after}
use Rattle.rt_drawing.specs.declared.miss.Miss.{Miss}
use Rattle.rt_drawing.specs.declared.window.Window.{Window}
use Rattle.rt_drawing.specs.Windows.{is_in}
use Rattle.rt_drawing.specs.Budgets.{serving_at}

-- at tick t a server is active with its deadline there or before: what is left of its budget comes too late
abbrev pub misses_in : ℕ → Mode → Account → Bool
misses_in t Active a = nat_le a.d t
misses_in t mode a = false

abbrev pub misses : ℕ → Serving → Bool
misses t s = misses_in t s.mode s.account

-- what is told of it
abbrev pub miss : ℕ → Account → Miss
miss t a = record { tick = t; deadline = a.d; unspent = a.c }

-- the first of some ticks at which a server misses its deadline, by how it stands at each
abbrev pub first_of : (ℕ → Serving) → List ℕ → Option Miss
first_of standing ticks = option_map (λ t. miss t (standing t).account) (find (λ t. misses t (standing t)) ticks)

-- the first before a tick, of a task with this own part
abbrev pub first_miss : ℕ → SetTask → List (ℕ × AttemptOutcome) → Option Miss
first_miss to s own = first_of (λ t. serving_at t s own) (range_with_len 0 to)

-- a picture shows it where its tick is in the window
abbrev pub shown_miss : Window → Option Miss → Option Miss
shown_miss w None = None
shown_miss w (Some m) = if is_in w m.tick then Some m else None

-- the first from tick b on, up to tick u and at it, of a server that stands so and goes from wake to wake
abbrev pub miss_by : ℕ → ℕ → Serving → Option Miss
miss_by b u s = first_of (λ t. due t s) (range_with_len b (u + 1 - b))

-- the first as far as these records tell it, which come behind tick b, the server standing so before them
abbrev pub told_miss : ℕ → Serving → List (ℕ × AttemptOutcome) → Option Miss
told_miss b s [] = None
told_miss b s (e ∷ es) = option_or (miss_by b e.0 s) (told_miss (e.0 + 1) (after e.0 e.1 (due e.0 s).account) es)
