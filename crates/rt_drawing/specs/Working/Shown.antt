-- What is drawn of ticks, and of plain ticks at once.
use Rattle.std.specs.Prelude.{ℕ, ◌+◌, ◌-◌, nat_le, nat_lt, max, if◌then◌else◌, Option, None, Some, ◌++◌}
use Rattle.rt_server.specs.Account.{Account}
use Rattle.rt_history.specs.declared.mode.Mode.{Mode}
use Rattle.rt_history.specs.declared.mode.Mode.TheVariants.{Active, Asleep}
use Rattle.rt_drawing.specs.declared.miss.Miss.{Miss}
use Rattle.rt_drawing.specs.declared.window.Window.{Window}
use Rattle.rt_drawing.specs.Jobs.{ticked}
use Rattle.rt_drawing.specs.Waits.{turn_waits, is_over}
use Rattle.rt_drawing.specs.Misses.{miss}
use Rattle.rt_drawing.specs.Standing.{TaskDrawing, next_turn}
use Rattle.rt_drawing.specs.Drawn.{shown_behind}

-- n ticks from u on, and the wait before them
abbrev pub shown_of : Window → ℕ → ℕ → TaskDrawing → TaskDrawing
shown_of w u n x = record x {
  waits = x.waits ++ turn_waits w (next_turn u x);
  stretches = shown_behind w u (u + n) (is_over (next_turn u x)) (ticked n x.job) x.stretches;
}

-- the first tick from b on at which a task in this mode is active, if no record changes that
abbrev pub active_from : ℕ → Mode → Option ℕ
active_from b Active = Some b
active_from b (Asleep w) = Some (max b w)
active_from b mode = None

-- the first deadline that is missed up to tick u by a server that is active from a tick on, if at all, and has this account at tick u
abbrev pub miss_from : Option ℕ → ℕ → Account → Option Miss
miss_from None u a = None
miss_from (Some k) u a = if nat_le (max k a.d) u then Some (miss (max k a.d) a) else None

-- the first deadline that is missed in the ticks from b on, of n plain ticks from u on of an active task that its budget allows
abbrev pub plain_miss : ℕ → ℕ → ℕ → Account → Option Miss
plain_miss b u n a =
    if nat_lt (max b a.d) (u + n) then Some (record { tick = max b a.d; deadline = a.d; unspent = a.c - (max b a.d - u) }) else None
