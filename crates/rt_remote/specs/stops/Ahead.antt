-- What a task meets before its coming attempt, and what the attempt before did.
use Rattle.std.specs.Prelude.{ℕ, ◌-◌, ◌&&◌, if◌then◌else◌, Bool, List, slice_get, Option, Some, None}
use Rattle.std.specs.Option.{option_map, option_and_then}
use Rattle.rt_words.specs.Base.{base}
use Rattle.rt_exec.specs.mem.Access.{is_inside, number}
use Rattle.rt_history.specs.declared.record.Attempt.{Attempt}
use Rattle.rt_history.specs.declared.record.AttemptOutcome.{AttemptOutcome}
use Rattle.rt_history.specs.declared.record.AttemptOutcome.TheVariants as outcomes
use Rattle.rt_history.specs.OwnPart.{TaskState}
use Rattle.rt_history.specs.MachineState.{MachineState}
use Rattle.rt_packet.specs.declared.request.actions.Action.{Action}
use Rattle.rt_history.specs.declared.record.Record.{Record}
use Rattle.rt_history.specs.declared.record.Record.TheVariants as records
use Rattle.rt_walk.specs.declared.events.Happening.{Happening}
use Rattle.rt_walk.specs.Jobs.{Stand}
use Rattle.rt_walk.specs.Events.{happens}
use Rattle.rt_walk.specs.Met.{first_of}
use Rattle.rt_points.specs.declared.events.Event.{Event}
use Rattle.rt_points.specs.declared.events.Events.{Events}
use Rattle.rt_points.specs.Events.{asks}
use Rattle.rt_points.specs.declared.point.Point.{Point}
use Rattle.rt_points.specs.declared.met.Watched.{Watched}
use Rattle.rt_points.specs.Access.{access_of}
use Rattle.rt_points.specs.Met.{break_at, watch_at}
use Rattle.rt_packet.specs.declared.answer.stops.Stop.{Stop}
use Rattle.rt_packet.specs.declared.answer.stops.Stop.TheVariants.{Plain, Ended, Faulted, Break, Watch, Happened}
use Rattle.rt_remote.specs.declared.stops.told.Told.{Told}
use Rattle.rt_remote.specs.stops.Looked.{is_looked, is_stepped}

abbrev pub told : ℕ → Stop → Told
told task stop = record { stop = stop; task = task }

-- how an attempt stops a looked-at task: by its end, by its fault, or by having been a stepped task's
abbrev pub stop_by : List (Option Action) → ℕ → AttemptOutcome → Option Stop
stop_by actions task outcomes.End = Some Ended
stop_by actions task (outcomes.Fault fault) = Some (Faulted fault)
stop_by actions task outcome = if is_stepped actions task then Some Plain else None

abbrev pub done_by : List (Option Action) → Attempt → Option Told
done_by actions attempt = if is_looked actions attempt.task then option_map (told attempt.task) (stop_by actions attempt.task attempt.outcome) else None

abbrev pub done_of : List (Option Action) → Record → Option Told
done_of actions records.Idle = None
done_of actions (records.Busy attempt) = done_by actions attempt

-- whether an event of a looked-at task is asked for
abbrev pub asks_of : List (Option Action) → Events → Event → ℕ → Bool
asks_of actions events event task = is_looked actions task && asks events event task

abbrev pub happened : Happening → Told
happened happening = told happening.task (Happened happening.event happening.job)

-- the event that happens behind a tick, by the machine before it, its record, and how the machine and the jobs stand after
abbrev pub event_on : List (Option Action) → Events → MachineState → Record → Stand → Option Told
event_on actions events before r after = option_map happened (happens (asks_of actions events) before r after)

-- what a tick did that stops its task, else the event
abbrev pub behind_on : List (Option Action) → Events → MachineState → Record → Stand → Option Told
behind_on actions events before r after = first_of (done_of actions r) (event_on actions events before r after)

-- the breakpoint that a task meets at pc
abbrev pub break_met : List Point → ℕ → ℕ → Option Told
break_met points task pc = option_map (λ kind. told task (Break kind)) (break_at points task pc)

-- the word at pc, low byte first, where its four bytes are all in RAM
abbrev pub word_at : List ℕ → ℕ → Option ℕ
word_at ram pc = if is_inside 4 ram pc then Some (number 4 ram (pc - base)) else None

-- the watchpoint that it meets by the word at pc: before the access, and by nothing but a load or a store
abbrev pub watch_of_task : List Point → ℕ → ℕ → TaskState → Option Watched
watch_of_task points task pc s =
    option_and_then (λ word. option_and_then (watch_at points task) (access_of word s.program.state.x)) (word_at s.program.state.ram pc)

abbrev pub watched_at : List Point → ℕ → ℕ → MachineState → Option Watched
watched_at points task pc m = option_and_then (watch_of_task points task pc) (slice_get m.tasks task)

abbrev pub watch_met : List Point → ℕ → ℕ → MachineState → Option Told
watch_met points task pc m = option_map (λ watched. told task (Watch watched)) (watched_at points task pc m)
