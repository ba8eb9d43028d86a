-- The lines of `monitor`.
use Rattle.std.specs.Prelude.{ℕ, ◌||◌, nat_lt, Bool, List, length, codes, Some, None, Result, Ok, Err, if◌then◌else◌}
use Rattle.std.specs.Option.{option_map_or, is_some}
use Rattle.std.specs.Str.{bytes_eq}
use Rattle.rt_words.specs.Limits.{tick_limit, line_limit}
use Rattle.rt_token.specs.SpacedWords.{after_keyword, decimal_up_to}
use Rattle.rt_command.specs.declared.command.Place.TheVariants.{Address, Symbol}
use Rattle.rt_command.specs.declared.command.Command.{Command}
use Rattle.rt_command.specs.declared.command.Command.TheVariants as commands
use Rattle.rt_command.specs.declared.refusal.Refusal.{Refusal}
use Rattle.rt_command.specs.CommandLine.{command_of}
use Rattle.rt_packet.specs.declared.request.monitor.Monitor.{Monitor}
use Rattle.rt_packet.specs.declared.request.monitor.Monitor.TheVariants.{At, Asked, Events, Help, Look, Unknown}
use Rattle.rt_packet.specs.declared.request.monitor.Wanted.{Wanted}
use Rattle.rt_packet.specs.declared.request.monitor.Wanted.TheVariants as wanted

-- the word of "at": "none", or a tick, in decimal digits without leading zeros
abbrev pub at_word : List ℕ → Monitor
at_word word =
    if bytes_eq word (codes "none") then At None
    else option_map_or (λ tick. At (Some tick)) (decimal_up_to tick_limit word) (Unknown wanted.At)

-- the commands of the debugger that only show, and nothing at a symbol: gdb has its own; and those that ask for an event
abbrev pub shown_by : Command → Monitor
shown_by commands.Shown = Look commands.Shown
shown_by (commands.Regs i) = Look (commands.Regs i)
shown_by (commands.Server i) = Look (commands.Server i)
shown_by (commands.Mem i (Symbol name) n) = Unknown wanted.Mem
shown_by (commands.Mem i (Address a) n) = Look (commands.Mem i (Address a) n)
shown_by (commands.List i (Symbol name) n) = Unknown wanted.List
shown_by (commands.List i (Address a) n) = Look (commands.List i (Address a) n)
shown_by (commands.Out i) = Look (commands.Out i)
shown_by (commands.Trace n) = Look (commands.Trace n)
shown_by (commands.Events event whose is_asked) = Events event whose is_asked
shown_by _ = Unknown wanted.Line

-- the first word of a line is this
abbrev pub begins_with : List ℕ → List ℕ → Bool
begins_with word line = bytes_eq line word || is_some (after_keyword word line)

-- what is wanted in place of a line that is no command: what goes with its first word, if a line begins with that
abbrev pub wanted_for : List ℕ → Wanted
wanted_for line =
    if begins_with (codes "where") line then wanted.Where
    else (if begins_with (codes "regs") line then wanted.Regs
    else (if begins_with (codes "server") line then wanted.Server
    else (if begins_with (codes "mem") line then wanted.Mem
    else (if begins_with (codes "list") line then wanted.List
    else (if begins_with (codes "out") line then wanted.Out
    else (if begins_with (codes "trace") line then wanted.Trace
    else (if begins_with (codes "stop") line || begins_with (codes "unstop") line then wanted.Stop else wanted.Line)))))))

abbrev pub command_line : Wanted → Result Command Refusal → Monitor
command_line want (Ok command) = shown_by command
command_line want (Err refusal) = Unknown want

-- a line without its end, of at most 512 bytes
abbrev pub monitor_of : List ℕ → Monitor
monitor_of line =
    if nat_lt line_limit (length line) then Unknown wanted.Line
    else (if bytes_eq line (codes "help") then Help
    else (if bytes_eq line (codes "at") then Asked
    else option_map_or at_word (after_keyword (codes "at") line) (command_line (wanted_for line) (command_of line))))
