-- How a line is read: one clause for each command, by the number of its words.
use Rattle.std.specs.Prelude.{ℕ, nat_le, nat_lt, if◌then◌else◌, Bool, true, false, List, [], ◌∷◌, length, Option, Some, None, Result, Ok, Err}
use Rattle.std.specs.List.{slice_split}
use Rattle.std.specs.Option.{option_map, option_and_then}
use Rattle.rt_words.specs.Found.{◌>>=◌, when}
use Rattle.rt_words.specs.Limits.{line_limit, tick_limit}
use Rattle.rt_token.specs.Word.{is_word}
use Rattle.rt_token.specs.SpacedWords.{is_space, decimal_up_to}
use Rattle.rt_points.specs.Events.{event_named}
use Rattle.rt_command.specs.declared.verb.Verb.{Verb}
use Rattle.rt_command.specs.declared.verb.Verb.TheVariants as verbs
use Rattle.rt_command.specs.declared.command.Place.{Place}
use Rattle.rt_command.specs.declared.command.Place.TheVariants.{Address, Symbol}
use Rattle.rt_command.specs.declared.command.Whose.{Whose}
use Rattle.rt_command.specs.declared.command.Whose.TheVariants.{Every, Number, Named}
use Rattle.rt_command.specs.declared.command.Command.{Command}
use Rattle.rt_command.specs.declared.command.Command.TheVariants.{Step, Back, Continue, Shown, Regs, Server, Mem, List as Listed, Out, Trace, Break, Delete, Events, Quit}
use Rattle.rt_command.specs.Verbs.{verb_of}
use Rattle.rt_command.specs.Commands.{number_limit, address_of}
use Rattle.rt_command.specs.declared.refusal.Refusal.{Refusal}
use Rattle.rt_command.specs.declared.refusal.Refusal.TheVariants.{UnknownCommand}

-- the words of a line, which single spaces separate
abbrev pub words : List ℕ → List (List ℕ)
words line = slice_split is_space line

-- a first word and the words of what stands after it
abbrev pub words_of : List ℕ → Option (List ℕ) → List (List ℕ)
words_of word None = word ∷ []
words_of word (Some rest) = word ∷ words rest

-- the number of a task or a stop
abbrev pub numbered : List ℕ → Option ℕ
numbered word = decimal_up_to number_limit word

-- a count from 1 to the limit
abbrev pub counted : ℕ → List ℕ → Option ℕ
counted limit word = do
  count ← decimal_up_to limit word
  when (nat_le 1 count) count

-- a word is a symbol, and everything else an address
abbrev pub place_of : List ℕ → Option Place
place_of word = if is_word word then Some (Symbol word) else option_map Address (address_of word)

-- a command of one word
abbrev pub alone : Verb → Option Command
alone verbs.Step = Some (Step 1)
alone verbs.Back = Some (Back 1)
alone verbs.Continue = Some (Continue 1000000)
alone verbs.Where = Some Shown
alone verbs.Quit = Some Quit
alone _ = None

-- an event that is asked for, of every task or of one, or no more
abbrev pub of_every : Bool → List ℕ → Option Command
of_every is_asked word = option_map (λ event. Events event Every is_asked) (event_named word)

-- a word is a task's name, and everything else its number
abbrev pub whose_of : List ℕ → Option Whose
whose_of word = if is_word word then Some (Named word) else option_map Number (numbered word)

abbrev pub of_one : Bool → List ℕ → List ℕ → Option Command
of_one is_asked word task = do
  event ← event_named word
  whose ← whose_of task
  Some (Events event whose is_asked)

-- a command of two words
abbrev pub with_one : Verb → List ℕ → Option Command
with_one verbs.Step word = option_map Step (counted tick_limit word)
with_one verbs.Back word = option_map Back (counted tick_limit word)
with_one verbs.Continue word = option_map Continue (counted tick_limit word)
with_one verbs.Regs word = option_map Regs (numbered word)
with_one verbs.Server word = option_map Server (numbered word)
with_one verbs.Out word = option_map Out (numbered word)
with_one verbs.Trace word = option_map Trace (counted 256 word)
with_one verbs.Delete word = option_map Delete (numbered word)
with_one verbs.Stop word = of_every true word
with_one verbs.Unstop word = of_every false word
with_one _ word = None

-- a stop: a task, and a place
abbrev pub breaks : List ℕ → List ℕ → Option Command
breaks task place = do
  i ← numbered task
  at ← place_of place
  Some (Break i at)

-- a command of three words
abbrev pub with_two : Verb → List ℕ → List ℕ → Option Command
with_two verbs.Break task place = breaks task place
with_two verbs.Stop word task = of_one true word task
with_two verbs.Unstop word task = of_one false word task
with_two _ first second = None

-- a part of RAM: a task, a place, and a count up to a limit
abbrev pub spans : (ℕ → Place → ℕ → Command) → ℕ → List ℕ → List ℕ → List ℕ → Option Command
spans command limit task place count = do
  i ← numbered task
  at ← place_of place
  n ← counted limit count
  Some (command i at n)

-- a command of four words
abbrev pub with_three : Verb → List ℕ → List ℕ → List ℕ → Option Command
with_three verbs.Mem task place count = spans Mem 256 task place count
with_three verbs.List task place count = spans Listed 64 task place count
with_three _ task place count = None

-- the command of the words after the first
abbrev pub after_verb : Verb → List (List ℕ) → Option Command
after_verb verb [] = alone verb
after_verb verb (a ∷ []) = with_one verb a
after_verb verb (a ∷ b ∷ []) = with_two verb a b
after_verb verb (a ∷ b ∷ c ∷ []) = with_three verb a b c
after_verb verb _ = None

-- the command of a line's words
abbrev pub in_words : List (List ℕ) → Option Command
in_words [] = None
in_words (name ∷ others) = option_and_then (λ verb. after_verb verb others) (verb_of name)

abbrev pub or_unknown : Option Command → Result Command Refusal
or_unknown None = Err UnknownCommand
or_unknown (Some command) = Ok command

-- a line without its end, of at most 512 bytes
abbrev pub command_of : List ℕ → Result Command Refusal
command_of line = if nat_lt line_limit (length line) then Err UnknownCommand else or_unknown (in_words (words line))
