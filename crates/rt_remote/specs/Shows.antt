-- What a session says of a task at the shown tick: its line, registers, numbers and RAM.
use Rattle.std.specs.Prelude.{◌≡◌, ℕ, ◌-◌, List, length, take, Option, Some, None}
use Rattle.std.specs.Option.{option_map, option_and_then}
use Rattle.rt_core.specs.View.{TaskView}
use Rattle.rt_debug.specs.reply.Shown.{server_shown}
use Rattle.rt_packet.specs.declared.answer.registers.TaskNumbers.{TaskNumbers}
use Rattle.rt_packet.specs.declared.answer.replies.Refused.TheVariants.{Malformed, NotInRam}
use Rattle.rt_packet.specs.answer.Registers.{registers_text, register_text}
use Rattle.rt_packet.specs.answer.Bytes.{memory_text, bytes_text}
use Rattle.rt_debug.specs.Looking.{view_of}
use Rattle.rt_remote.specs.Remote.{RemoteState, machine}
use Rattle.rt_remote.specs.Said.{Said, refuses, says_or}

-- what is said of the one task that is meant
abbrev pub one_said : Option ℕ → (ℕ → Said) → Said
one_said None say = refuses Malformed
one_said (Some i) say = say i

-- the line of a task's mode and server, without its end
abbrev pub without_end : List ℕ → List ℕ
without_end line = take (length line - 1) line

abbrev pub task_said : RemoteState → ℕ → Said
task_said state i = says_or Malformed (option_map (λ v. bytes_text (without_end (server_shown i v))) (view_of (machine state) i))

-- the shown task
abbrev pub shown_view : RemoteState → Option TaskView
shown_view state = view_of (machine state) state.selection.shown

-- its registers, its numbers, and bytes of its RAM
abbrev pub registers_said : RemoteState → Said
registers_said state = says_or Malformed (option_map (λ v. registers_text v.state.x v.state.pc) (shown_view state))

abbrev pub AreNumbers : RemoteState → TaskView → TaskNumbers → Type 0
AreNumbers state v numbers =
    (numbers.x.now ≡ v.state.x) × (numbers.pc ≡ v.state.pc) × (numbers.tick ≡ (machine state).tick) × (numbers.budget ≡ v.serving.account.c) × (numbers.deadline ≡ v.serving.account.d)

abbrev pub NumberOf : RemoteState → ℕ → Said → Option TaskView → Type 0
NumberOf state n said None = said ≡ refuses Malformed
NumberOf state n said (Some v) = (numbers : TaskNumbers) × AreNumbers state v numbers × (said ≡ says_or Malformed (register_text numbers n))

abbrev pub memory_said : RemoteState → ℕ → ℕ → Said
memory_said state address count = says_or NotInRam (option_and_then (λ v. memory_text v.state.ram address count) (shown_view state))
