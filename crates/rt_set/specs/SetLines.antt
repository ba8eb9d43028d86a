-- Reading a set file line by line, with the first faulty line.
use Rattle.std.specs.Prelude.{◌≡◌, ℕ, ◌+◌, ◌-◌, ◌^◌, ◌&&◌, nat_eq, nat_lt, find, length, List, [], ◌∷◌, ◌++◌, codes, Bool, true, false, Option, Some, None, Result, Ok, Err, if◌then◌else◌}
use Rattle.std.specs.List.{starts_with}
use Rattle.std.specs.Option.{option_map, option_map_or}
use Rattle.std.specs.Str.{is_utf8}
use Rattle.rt_words.specs.Found.{◌>>=◌, when}
use Rattle.rt_words.specs.Limits.{is_ram_size}
use Rattle.rt_words.specs.Run.{run}
use Rattle.rt_image.specs.SystemFile.{task_limit}
use Rattle.rt_token.specs.SpacedWords.{after_keyword, decimal_up_to, number_at}
use Rattle.rt_set.specs.SetFile.{TaskEntry, SetEntries, set_entries, set_lines, says_something, task_word}
use Rattle.rt_set.specs.declared.set.SetFile.{SetFile}
use Rattle.rt_set.specs.declared.fault.SetFault.{SetFault}
use Rattle.rt_set.specs.declared.fault.SetFault.TheVariants.{Memory, Line}

-- a line that begins so is to be the first of a set
abbrev pub begins_set : List ℕ → Bool
begins_set line = starts_with nat_eq line (codes "hyper ")

-- whether a text is to be a set: the first line that says something begins so
abbrev pub is_set : List ℕ → Bool
is_set text = option_map_or begins_set (find says_something (set_lines text)) false

-- the greatest number of a line
abbrev pub number_limit : ℕ
number_limit = 2 ^ 32 - 1

-- `hyper N`
unfoldable pub hyper_of : List ℕ → Option ℕ
hyper_of line = do
  rest ← after_keyword (codes "hyper") line
  decimal_up_to number_limit rest

-- a path is text and not empty
abbrev pub path_of : List ℕ → Option (List ℕ)
path_of bytes = when (nat_lt 0 (length bytes) && is_utf8 bytes) bytes

-- which of two words a line begins with, by what stands after each
abbrev pub which_word : Option (List ℕ) → Option (List ℕ) → Option (Bool × List ℕ)
which_word (Some rest) split = Some (false, rest)
which_word None (Some rest) = Some (true, rest)
which_word None None = None

-- `task`, or `task-split` for a task whose accesses are split, and what stands after it
unfoldable pub task_word_of : List ℕ → Option (Bool × List ℕ)
task_word_of line = which_word (after_keyword (task_word false) line) (after_keyword (task_word true) line)

-- `task BUDGET PERIOD START RAM PATH`, or the same with `task-split`
unfoldable pub task_of : List ℕ → Option TaskEntry
task_of line = do
  word ← task_word_of line
  budget ← number_at number_limit word.1
  period ← number_at number_limit budget.1
  start ← number_at number_limit period.1
  ram ← number_at number_limit start.1
  after_ram ← when (is_ram_size ram.0) ram.1
  path ← path_of after_ram
  Some (record { budget = budget.0; period = period.0; start = start.0; split = word.0; ram = ram.0; path = path })

-- what the lines so far said
pub record Draft : Type 0 where
  pub hyper : Option ℕ
  pub tasks : List TaskEntry

-- one more line that says something: the first is the hyper line, and each further a task line, of which there are at most 256
abbrev pub after_entry : Option ℕ → List TaskEntry → List ℕ → Option Draft
after_entry None tasks line = option_map (λ n. record { hyper = Some n; tasks = tasks }) (hyper_of line)
after_entry (Some n) tasks line =
    if nat_lt (length tasks) task_limit then option_map (λ t. record { hyper = Some n; tasks = tasks ++ t ∷ [] }) (task_of line) else None

-- one more line; none where it is faulty
abbrev pub after_line : Draft → List ℕ → Option Draft
after_line draft line = if says_something line then after_entry draft.hyper draft.tasks line else Some draft

abbrev pub or_faulty : Option Draft → Result Draft (Unit {0})
or_faulty None = Err tt
or_faulty (Some draft) = Ok draft

-- reads lines behind those that were read, the first of them being line n of its text
abbrev pub read_from : ℕ → Draft → List (List ℕ) → Result Draft ℕ
read_from n draft lines = run (λ line _. line) (λ before line. or_faulty (after_line before line)) n draft lines

-- what a whole file said, where `after` is the number after its last line
abbrev pub whole : ℕ → Option ℕ → List TaskEntry → Result SetEntries ℕ
whole after None tasks = Err after
whole after (Some n) tasks = Ok (record { hyper = n; tasks = tasks })

abbrev pub finished : ℕ → Result Draft ℕ → Result SetEntries ℕ
finished after (Ok draft) = whole after draft.hyper draft.tasks
finished after (Err line) = Err line

-- what a text says, or the number of its first faulty line; lines count from 1
abbrev pub set_of : List ℕ → Result SetEntries ℕ
set_of text = finished (1 + length (set_lines text)) (read_from 1 (record { hyper = None; tasks = [] }) (set_lines text))

-- what a function answered is what reading gives, or memory ran out
abbrev pub Reads : Result SetFile SetFault → Result SetEntries ℕ → Type 0
Reads (Ok set) read = read ≡ Ok (set_entries set)
Reads (Err Memory) read = Unit {0}
Reads (Err (Line line)) read = read ≡ Err line
