-- What a session answers to a command that only looks.
use Rattle.std.specs.Prelude.{ℕ, ◌*◌, ◌%◌, ◌==◌, ◌&&◌, if◌then◌else◌, Bool, true, false, List, [], ◌∷◌, slice_get, Option, Some, None, Result, Ok, Err}
use Rattle.std.specs.Option.{option_map, is_some}
use Rattle.std.specs.Str.{bytes_eq}
use Rattle.rt_words.specs.Chain.{◌>>=◌}
use Rattle.rt_exec.specs.mem.Span.{span}
use Rattle.rt_image.specs.ObjectFile.{Label}
use Rattle.rt_image.specs.SystemFile.{SetTask, TaskSet}
use Rattle.rt_history.specs.declared.record.Entry.{Entry}
use Rattle.rt_history.specs.MachineState.{MachineState}
use Rattle.rt_core.specs.Next.{next_of}
use Rattle.rt_core.specs.View.{TaskView, shown}
use Rattle.rt_trace.specs.OutLine.{out_text}
use Rattle.rt_command.specs.declared.command.Place.{Place}
use Rattle.rt_command.specs.declared.command.Place.TheVariants.{Address, Symbol}
use Rattle.rt_command.specs.declared.command.Command.{Command}
use Rattle.rt_command.specs.declared.command.Command.TheVariants as commands
use Rattle.rt_command.specs.declared.refusal.Refusal.{Refusal}
use Rattle.rt_command.specs.declared.refusal.Refusal.TheVariants.{UnknownTask, UnknownSymbol, BadAddress, UnknownCommand}
use Rattle.rt_debug.specs.declared.reply.reply.Stopped.{Stopped}
use Rattle.rt_debug.specs.declared.reply.reply.Reply.{Reply}
use Rattle.rt_debug.specs.declared.reply.reply.Reply.TheVariants.{Tick}
use Rattle.rt_debug.specs.reply.Shown.{regs_shown, server_shown, mem_shown, words_shown, trace_shown}

-- the tick line of a machine
abbrev pub tick_reply : Stopped → MachineState → Reply
tick_reply stop m = Tick stop m.tick (next_of m)

-- what is shown of task i, and its output, where there is such a task
abbrev pub view_of : MachineState → ℕ → Option TaskView
view_of m i = option_map shown (slice_get m.tasks i)

abbrev pub output_of : MachineState → ℕ → Option (List ℕ)
output_of m i = option_map (λ s. s.program.output) (slice_get m.tasks i)

-- the answer of a task, where there is one
abbrev pub of_task : {X Y : Type 0} → (X → Result Y Refusal) → Option X → Result Y Refusal
of_task show None = Err UnknownTask
of_task show (Some x) = show x

-- the lines of bytes, where all are in RAM
abbrev pub of_span : (List ℕ → List ℕ) → Option (List ℕ) → Result (List ℕ) Refusal
of_span show None = Err BadAddress
of_span show (Some bytes) = Ok (show bytes)

-- the bytes of n words of RAM, which begin at a multiple of 4
abbrev pub words_in : List ℕ → ℕ → ℕ → Option (List ℕ)
words_in ram a n = if a % 4 == 0 then span ram a (4 * n) else None

-- the commands that show a task or the ring
abbrev pub shows : Command → Bool
shows (commands.Regs i) = true
shows (commands.Server i) = true
shows (commands.Mem i place n) = true
shows (commands.List i place n) = true
shows (commands.Out i) = true
shows (commands.Trace n) = true
shows command = false

-- the address of the first symbol of this name
abbrev pub address_in : List Label → List ℕ → Option ℕ
address_in [] name = None
address_in (l ∷ ls) name = if bytes_eq l.name name then Some l.address else address_in ls name

abbrev pub symbol_in : Option SetTask → List ℕ → Option ℕ
symbol_in None name = None
symbol_in (Some t) name = address_in t.object.labels name

-- the address that a place of a task names
abbrev pub address_by : Option ℕ → Result ℕ Refusal
address_by None = Err UnknownSymbol
address_by (Some a) = Ok a

abbrev pub address_of : Option SetTask → Place → Result ℕ Refusal
address_of task (Address a) = Ok a
address_of task (Symbol name) = address_by (symbol_in task name)

-- a stop may be at a multiple of 4 whose word is in RAM
abbrev pub pc_at : ℕ → List ℕ → Result ℕ Refusal
pc_at a ram = if (a % 4 == 0) && is_some (span ram a 4) then Ok a else Err BadAddress

-- the pc at which a `break` of task i adds its stop
abbrev pub place_pc : TaskSet → MachineState → ℕ → Place → Result ℕ Refusal
place_pc set m i place = of_task (λ v. address_of (slice_get set.tasks i) place >>= (λ a. pc_at a v.state.ram)) (view_of m i)

-- the lines of the part of RAM that begins at a place of task i
abbrev pub from_place : List SetTask → MachineState → ℕ → Place → (ℕ → List ℕ → Result (List ℕ) Refusal) → Result (List ℕ) Refusal
from_place tasks m i place show = of_task (λ v. address_of (slice_get tasks i) place >>= (λ a. show a v.state.ram)) (view_of m i)

-- the lines that commands show, of a machine of these tasks and of the entries that are kept
abbrev pub looked : List SetTask → MachineState → List Entry → Command → Result (List ℕ) Refusal
looked tasks m kept (commands.Regs i) = of_task (λ v. Ok (regs_shown v)) (view_of m i)
looked tasks m kept (commands.Server i) = of_task (λ v. Ok (server_shown i v)) (view_of m i)
looked tasks m kept (commands.Mem i place n) = from_place tasks m i place (λ a ram. of_span (mem_shown a) (span ram a n))
looked tasks m kept (commands.List i place n) = from_place tasks m i place (λ a ram. of_span (words_shown a) (words_in ram a n))
looked tasks m kept (commands.Out i) = of_task (λ output. Ok (out_text output)) (output_of m i)
looked tasks m kept (commands.Trace n) = Ok (trace_shown n kept)
looked tasks m kept command = Err UnknownCommand
