-- The texts of replies.
use Rattle.std.specs.Prelude.{ℕ, if◌then◌else◌, Bool, List, [], ◌++◌, codes, decimal, Option, Some, None, Result, Ok, Err}
use Rattle.rt_words.specs.Hex.{hex}
use Rattle.rt_core.specs.declared.view.Next.{Next}
use Rattle.rt_core.specs.declared.view.Next.TheVariants.{Idle, Run}
use Rattle.rt_command.specs.Refusals.{refusal_number, refusal_name}
use Rattle.rt_command.specs.declared.refusal.Refusal.{Refusal}
use Rattle.rt_points.specs.declared.events.Event.{Event}
use Rattle.rt_points.specs.Events.{name_of}
use Rattle.rt_walk.specs.declared.events.Happening.{Happening}
use Rattle.rt_debug.specs.declared.reply.reply.Stopped.{Stopped}
use Rattle.rt_debug.specs.declared.reply.reply.Stopped.TheVariants.{Unasked, NoStop, At, Happened}
use Rattle.rt_debug.specs.declared.reply.reply.Reply.{Reply}
use Rattle.rt_debug.specs.declared.reply.reply.Reply.TheVariants.{Tick, Deleted, Events, Text}

-- what happened, and to which job, if it did to one
abbrev pub job_suffix : Option ℕ → List ℕ
job_suffix None = codes "\n"
job_suffix (Some number) = codes " job " ++ decimal number ++ codes "\n"

abbrev pub happened_text : Happening → List ℕ
happened_text happening = name_of happening.event ++ codes ": task " ++ decimal happening.task ++ job_suffix happening.job

-- an event that is asked for, of this task or of every one, or no more
abbrev pub task_suffix : Option ℕ → List ℕ
task_suffix None = codes "\n"
task_suffix (Some task) = codes " " ++ decimal task ++ codes "\n"

abbrev pub event_text : Event → Option ℕ → Bool → List ℕ
event_text event task is_asked = (if is_asked then codes "stop " else codes "unstop ") ++ name_of event ++ task_suffix task

-- how a session came to stand still: at an event, by a line of its own
abbrev pub stopped_text : Stopped → List ℕ
stopped_text Unasked = []
stopped_text NoStop = codes "no stop "
stopped_text (At k) = codes "stop " ++ decimal k ++ codes " "
stopped_text (Happened happening) = happened_text happening

-- what the coming tick is to be
abbrev pub next_text : Next → List ℕ
next_text Idle = codes "idle"
next_text (Run task pc) = decimal task ++ codes " " ++ hex 8 pc

-- the tick line
abbrev pub tick_text : Stopped → ℕ → Next → List ℕ
tick_text stop t next = stopped_text stop ++ codes "tick " ++ decimal t ++ codes " next " ++ next_text next ++ codes "\n"

-- a reply that isn't lines
abbrev pub short_text : Reply → List ℕ
short_text (Tick stop t next) = tick_text stop t next
short_text (Deleted k) = codes "deleted " ++ decimal k ++ codes "\n"
short_text (Events event task is_asked) = event_text event task is_asked
short_text _ = []

-- nothing for a stop that is yet to be added, and for the end
abbrev pub reply_text : Reply → List ℕ
reply_text (Text lines) = lines
reply_text reply = short_text reply

-- the line of a refusal
abbrev pub refusal_text : Refusal → List ℕ
refusal_text refusal = codes "refused " ++ decimal (refusal_number refusal) ++ codes " " ++ refusal_name refusal ++ codes "\n"

-- the line of a stop that was added
abbrev pub break_text : ℕ → ℕ → ℕ → List ℕ
break_text k task pc = codes "break " ++ decimal k ++ codes " " ++ decimal task ++ codes " " ++ hex 8 pc ++ codes "\n"

-- the text of an answer
abbrev pub answer_text : Result Reply Refusal → List ℕ
answer_text (Ok reply) = reply_text reply
answer_text (Err refusal) = refusal_text refusal

-- the answer once the stop of a `break` was to be added
abbrev pub added_text : ℕ → ℕ → Result ℕ Refusal → List ℕ
added_text task pc (Ok k) = break_text k task pc
added_text task pc (Err refusal) = refusal_text refusal
