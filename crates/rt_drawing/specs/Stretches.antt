-- The longest stretches of ticks of one task, each of one job.
use Rattle.std.specs.Prelude.{◌≡◌, ◌≢◌, ℕ, ◌+◌, ◌-◌, ◌≤◌, ◌⊎◌, ◌==◌, if◌then◌else◌, nat_le, Bool, ◌&&◌, List, [], ◌∷◌, map, filter}
use Rattle.std.specs.Bool.{beq}
use Rattle.std.specs.List.{range_with_len}
use Rattle.rt_drawing.specs.declared.job.Job.{Job}
use Rattle.rt_drawing.specs.declared.stretch.Stretch.{Stretch}
use Rattle.rt_drawing.specs.declared.window.Window.{Window}
use Rattle.rt_drawing.specs.Jobs.{ticked}
use Rattle.rt_drawing.specs.Waits.{stretch, Turn, is_over}

-- its ticks, one after the other, each with whether it is over the period, and with the number of its job
abbrev pub stretch_ticks : Stretch → List (ℕ × Bool × ℕ)
stretch_ticks s = map (λ t. (t, s.over, s.job.number)) (range_with_len s.from (s.to - s.from))

-- both are over the period, or neither is, and they are of the same job
abbrev pub alike : Bool → ℕ → Bool → ℕ → Bool
alike over number other other_number = beq over other && number == other_number

-- one ends before the other begins, or where it begins, but then one of both is over the period, or they are of two jobs
abbrev pub AreApart : Stretch → Stretch → Type 0
AreApart s next = (s.to ≤ next.from) × (s.to ≡ next.from → (s.over ≢ next.over) ⊎ (s.job.number ≢ next.job.number))

-- a tick before these stretches: in the first of them where that begins right behind it, and both are alike. A stretch tells how far its job has
-- come with its last tick.
abbrev pub tick_before : ℕ × Bool × Job → List Stretch → List Stretch
tick_before (u, over, j) [] = stretch u (u + 1) over j ∷ []
tick_before (u, over, j) (s ∷ later) =
    if s.from == u + 1 && alike over j.number s.over s.job.number then stretch u s.to s.over s.job ∷ later
    else stretch u (u + 1) over j ∷ s ∷ later

-- the stretches of rising ticks
abbrev pub stretches : List (ℕ × Bool × Job) → List Stretch
stretches [] = []
stretches (u ∷ us) = tick_before u (stretches us)

-- a turn's tick, whether it is over the period, and how far its job has come with it
abbrev pub turn_tick : Turn → ℕ × Bool × Job
turn_tick t = (t.tick, is_over t, ticked 1 t.job)

-- the ticks of a task's turns that a picture shows, which ends with the last of them
abbrev pub shown_ticks : Window → List Turn → List (ℕ × Bool × Job)
shown_ticks w turns = filter (λ e. nat_le w.from e.0) (map turn_tick turns)
