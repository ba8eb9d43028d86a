-- The command lines: what is written for each command, without the end of the line.
use Rattle.std.specs.Prelude.{◌≡◌, ℕ, ◌-◌, ◌^◌, ◌≤◌, ◌⊎◌, Bool, true, false, List, [], ◌∷◌, codes, Option, Some}
use Rattle.std.specs.Fmt.{decimal}
use Rattle.std.specs.List.{join_with_byte}
use Rattle.std.specs.Str.{byte}
use Rattle.rt_words.specs.Limits.{tick_limit}
use Rattle.rt_token.specs.Word.{is_word}
use Rattle.rt_token.specs.Number.{magnitude}
use Rattle.rt_points.specs.declared.events.Event.{Event}
use Rattle.rt_points.specs.Events.{name_of}
use Rattle.rt_command.specs.declared.command.Place.{Place}
use Rattle.rt_command.specs.declared.command.Place.TheVariants.{Address, Symbol}
use Rattle.rt_command.specs.declared.command.Whose.{Whose}
use Rattle.rt_command.specs.declared.command.Whose.TheVariants.{Every, Number, Named}
use Rattle.rt_command.specs.declared.command.Command.{Command}
use Rattle.rt_command.specs.declared.command.Command.TheVariants as commands

-- the greatest number of a task, of a stop, and of an address
abbrev pub number_limit : ℕ
number_limit = 2 ^ 32 - 1

-- an address: a number of assembly text without '-'
abbrev pub address_of : List ℕ → Option ℕ
address_of text = magnitude number_limit text

-- the line of these words: single spaces separate them
abbrev pub spaced : List (List ℕ) → List ℕ
spaced words = join_with_byte (byte " ") words

-- a verb alone, which means its usual count, or a verb and a count
abbrev pub IsCounted : List ℕ → ℕ → List ℕ → ℕ → Type 0
IsCounted verb usual line n =
    ((line ≡ verb) × (n ≡ usual)) ⊎ ((line ≡ spaced (verb ∷ decimal n ∷ [])) × (1 ≤ n) × (n ≤ tick_limit))

-- a verb, and the number of a task or a stop
abbrev pub IsNumbered : List ℕ → List ℕ → ℕ → Type 0
IsNumbered verb line i = (line ≡ spaced (verb ∷ decimal i ∷ [])) × (i ≤ number_limit)

-- a word is a symbol's name, and everything else an address
abbrev pub IsPlace : List ℕ → Place → Type 0
IsPlace text (Symbol name) = (text ≡ name) × (is_word text ≡ true)
IsPlace text (Address a) = (is_word text ≡ false) × (address_of text ≡ Some a)

-- a verb, a task, a place, and a count up to a limit
abbrev pub IsSpan : List ℕ → ℕ → List ℕ → ℕ → Place → ℕ → Type 0
IsSpan verb limit line i place n =
    (text : List ℕ) × (line ≡ spaced (verb ∷ decimal i ∷ text ∷ decimal n ∷ [])) × (i ≤ number_limit)
    × IsPlace text place × (1 ≤ n) × (n ≤ limit)

-- a verb and an event, of every task or of one, by its number or its name
abbrev pub asking : Bool → List ℕ
asking true = codes "stop"
asking false = codes "unstop"

abbrev pub IsEvent : List ℕ → Event → Whose → Bool → Type 0
IsEvent line event Every is_asked = line ≡ spaced (asking is_asked ∷ name_of event ∷ [])
IsEvent line event (Number i) is_asked = (line ≡ spaced (asking is_asked ∷ name_of event ∷ decimal i ∷ [])) × (i ≤ number_limit)
IsEvent line event (Named name) is_asked = (line ≡ spaced (asking is_asked ∷ name_of event ∷ name ∷ [])) × (is_word name ≡ true)

-- the line of each command; `decimal` writes no leading zeros
abbrev pub IsCommand : List ℕ → Command → Type 0
IsCommand line (commands.Step n) = IsCounted (codes "step") 1 line n
IsCommand line (commands.Back n) = IsCounted (codes "back") 1 line n
IsCommand line (commands.Continue n) = IsCounted (codes "continue") 1000000 line n
IsCommand line commands.Shown = line ≡ codes "where"
IsCommand line (commands.Regs i) = IsNumbered (codes "regs") line i
IsCommand line (commands.Server i) = IsNumbered (codes "server") line i
IsCommand line (commands.Mem i place n) = IsSpan (codes "mem") 256 line i place n
IsCommand line (commands.List i place n) = IsSpan (codes "list") 64 line i place n
IsCommand line (commands.Out i) = IsNumbered (codes "out") line i
IsCommand line (commands.Trace n) = (line ≡ spaced (codes "trace" ∷ decimal n ∷ [])) × (1 ≤ n) × (n ≤ 256)
IsCommand line (commands.Break i place) =
    (text : List ℕ) × (line ≡ spaced (codes "break" ∷ decimal i ∷ text ∷ [])) × (i ≤ number_limit) × IsPlace text place
IsCommand line (commands.Delete k) = IsNumbered (codes "delete") line k
IsCommand line (commands.Events event whose is_asked) = IsEvent line event whose is_asked
IsCommand line commands.Quit = line ≡ codes "quit"
