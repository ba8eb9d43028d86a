-- The lines of `monitor`.
use Rattle.std.specs.Prelude.{◌≡◌, ◌⊎◌, ℕ, ◌-◌, Bool, true, false, List, [], ◌++◌, length, codes, decimal, Option, Some, None, Result, Ok, Err}
use Rattle.rt_command.specs.declared.command.Command.{Command}
use Rattle.rt_command.specs.declared.command.Command.TheVariants.{Shown, Mem, List as Listed}
use Rattle.rt_command.specs.declared.refusal.Refusal.{Refusal}
use Rattle.rt_command.specs.declared.refusal.Refusal.TheVariants.{UnknownTask, BadAddress}
use Rattle.rt_history.specs.MachineState.{MachineState}
use Rattle.rt_core.specs.Next.{next_of}
use Rattle.rt_core.specs.View.{TaskView}
use Rattle.rt_debug.specs.declared.reply.reply.Stopped.TheVariants.{Unasked}
use Rattle.rt_debug.specs.reply.ReplyText.{event_text, tick_text, refusal_text}
use Rattle.rt_debug.specs.Looking.{view_of, looked}
use Rattle.rt_debug.specs.Whose.{meant}
use Rattle.rt_packet.specs.declared.request.monitor.Monitor.{Monitor}
use Rattle.rt_packet.specs.declared.request.monitor.Monitor.TheVariants.{At, Asked, Events as Asks, Help, Look, Unknown}
use Rattle.rt_packet.specs.declared.request.monitor.Wanted.{Wanted}
use Rattle.rt_packet.specs.declared.request.monitor.Wanted.TheVariants as wanted
use Rattle.rt_packet.specs.declared.answer.replies.Refused.TheVariants.{NoMemory}
use Rattle.rt_points.specs.declared.events.Event.{Event}
use Rattle.rt_points.specs.declared.events.Events.{Events}
use Rattle.rt_points.specs.Events.{with_event}
use Rattle.rt_remote.specs.Remote.{RemoteState, machine}
use Rattle.rt_remote.specs.Said.{Said, prints, refuses}

-- the tick stop
abbrev pub at_text : Option ℕ → List ℕ
at_text None = codes "at none\n"
at_text (Some tick) = codes "at " ++ decimal tick ++ codes "\n"

-- the lines that there are
abbrev pub help_text : List ℕ
help_text = codes "where, regs i, server i, mem i a n, list i a n, out i, trace n, at, at t, at none, stop w i, unstop w i, help\n"

-- what goes with a first word, or the lines that there are
abbrev pub wanted_text : Wanted → List ℕ
wanted_text wanted.Line = help_text
wanted_text wanted.At = codes "at TICK, 0 to 1099511627776, or at none\n"
wanted_text wanted.Where = codes "where\n"
wanted_text wanted.Regs = codes "regs TASK, a number from 0\n"
wanted_text wanted.Server = codes "server TASK, a number from 0\n"
wanted_text wanted.Mem = codes "mem TASK ADDRESS COUNT, as mem 0 0x80000000 16; 1 to 256 bytes\n"
wanted_text wanted.List = codes "list TASK ADDRESS COUNT, as list 0 0x80000000 4; 1 to 64 words\n"
wanted_text wanted.Out = codes "out TASK, a number from 0\n"
wanted_text wanted.Trace = codes "trace COUNT, 1 to 256\n"
wanted_text wanted.Stop = codes "stop or unstop, wake, dispatch, postponed, finish, over or fault, and TASK, a number or a name, or none\n"

-- a line that is none is refused, and a second line says what is wanted in its place
abbrev pub refused_text : Wanted → List ℕ
refused_text want = codes "refused 1 UnknownCommand\nwanted: " ++ wanted_text want

-- the task of whose RAM a command shows a part
abbrev pub task_in : Command → ℕ
task_in (Mem i place n) = i
task_in (Listed i place n) = i
task_in command = 0

-- a task is refused in a machine of so many, and bytes outside of a RAM of so many: a second line has the range, and whether a name serves too
abbrev pub unknown_text : ℕ → List ℕ
unknown_text n = codes "refused 2 UnknownTask\nwanted: a task from 0 to " ++ decimal (n - 1)

abbrev pub task_text : ℕ → List ℕ
task_text n = unknown_text n ++ codes "\n"

abbrev pub nobody_text : ℕ → List ℕ
nobody_text n = unknown_text n ++ codes ", or a name that one task has\n"

abbrev pub ram_text : ℕ → List ℕ
ram_text n = codes "refused 4 BadAddress\nwanted: of the " ++ decimal n ++ codes " bytes from 0x80000000 on, words at multiples of 4\n"

abbrev pub outside_text : Option TaskView → List ℕ
outside_text None = []
outside_text (Some v) = ram_text (length v.state.ram)

abbrev pub range_text : MachineState → Command → Refusal → List ℕ
range_text m command UnknownTask = task_text (length m.tasks)
range_text m command BadAddress = outside_text (view_of m (task_in command))
range_text m command refusal = refusal_text refusal

-- with this tick stop
abbrev pub with_stop : Option ℕ → RemoteState → RemoteState
with_stop tick state = record state { selection = record state.selection { tick_stop = tick } }

-- with these events
abbrev pub with_events : Events → RemoteState → RemoteState
with_events events state = record state { selection = record state.selection { events = events } }

-- an event is asked for, of the task that is meant, or no more
abbrev pub AsksEvent : Result (Option ℕ) Refusal → RemoteState → Event → Bool → Said → RemoteState → Type 0
AsksEvent (Ok task) old event is_asked said new =
    (new ≡ with_events (with_event event task is_asked old.selection.events) old) × (said ≡ prints (event_text event task is_asked))
AsksEvent (Err refusal) old event is_asked said new = (new ≡ old) × (said ≡ prints (nobody_text (length (machine old).tasks)))

abbrev pub looked_text : MachineState → Command → Result (List ℕ) Refusal → List ℕ
looked_text m command (Ok lines) = lines
looked_text m command (Err refusal) = range_text m command refusal

-- the command that shows where the session stands
abbrev pub is_where : Command → Bool
is_where Shown = true
is_where command = false

-- what a command prints that only shows; there are no symbols of objects
abbrev pub look_text : RemoteState → Command → List ℕ
look_text state Shown = tick_text Unasked (machine state).tick (next_of (machine state))
look_text state command = looked_text (machine state) command (looked [] (machine state) state.walk.shown.ring.items command)

-- A line prints its text, and nothing moves. Memory may run out for the lines that show a task or the history.
abbrev pub Monitors : RemoteState → Monitor → Said → RemoteState → Type 0
Monitors old (At tick) said new = (new ≡ with_stop tick old) × (said ≡ prints (at_text tick))
Monitors old Asked said new = (new ≡ old) × (said ≡ prints (at_text old.selection.tick_stop))
Monitors old (Asks event whose is_asked) said new = AsksEvent (meant old.names (machine old) whose) old event is_asked said new
Monitors old Help said new = (new ≡ old) × (said ≡ prints help_text)
Monitors old (Look command) said new = (new ≡ old) × ((said ≡ prints (look_text old command)) ⊎ (said ≡ refuses NoMemory))
Monitors old (Unknown want) said new = (new ≡ old) × (said ≡ prints (refused_text want))
