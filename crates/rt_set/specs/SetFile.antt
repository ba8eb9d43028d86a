-- What a set file says, and the lines that say it.
use Rattle.std.specs.Prelude.{◌≡◌, ℕ, ◌^◌, ◌<◌, ◌≤◌, ◌==◌, List, [], ◌∷◌, ◌++◌, length, map, filter, codes, Bool, true, false, if◌then◌else◌, IsUtf8}
use Rattle.std.specs.Fmt.{decimal}
use Rattle.std.specs.Str.{byte}
use Rattle.rt_words.specs.Limits.{is_ram_size}
use Rattle.rt_token.specs.SourceLines.{source_lines}
use Rattle.rt_image.specs.SystemFile.{task_limit}
use Rattle.rt_set.specs.declared.set.TaskLine.{TaskLine}
use Rattle.rt_set.specs.declared.set.SetFile.{SetFile}

-- a task line: its numbers, and the bytes of its path
pub record TaskEntry : Type 0 where
  pub budget : ℕ
  pub period : ℕ
  pub start : ℕ
  pub split : Bool
  pub ram : ℕ
  pub path : List ℕ

-- the hyperperiod, and the task lines
pub record SetEntries : Type 0 where
  pub hyper : ℕ
  pub tasks : List TaskEntry

-- what the program's lines and sets stand for
abbrev pub task_entry : TaskLine → TaskEntry
task_entry t = record { budget = t.budget; period = t.period; start = t.start; split = t.split; ram = t.ram; path = t.path.now }

abbrev pub task_entries : List TaskLine → List TaskEntry
task_entries ts = map task_entry ts

abbrev pub set_entries : SetFile → SetEntries
set_entries s = record { hyper = s.hyper; tasks = task_entries s.tasks.items }

-- the lines of a text, those of assembly text without their places
abbrev pub set_lines : List ℕ → List (List ℕ)
set_lines text = map (λ line. line.1) (source_lines 0 text)

-- a line that says something: not an empty one, and not a comment, which begins with '#'
abbrev pub says_something : List ℕ → Bool
says_something [] = false
says_something (b ∷ bs) = if b == byte "#" then false else true

abbrev pub hyper_line : ℕ → List ℕ
hyper_line n = codes "hyper " ++ decimal n

-- the first word of a task line
abbrev pub task_word : Bool → List ℕ
task_word false = codes "task"
task_word true = codes "task-split"

abbrev pub task_line : TaskEntry → List ℕ
task_line t =
    task_word t.split ++ codes " " ++ decimal t.budget ++ codes " " ++ decimal t.period ++ codes " " ++ decimal t.start ++ codes " " ++ decimal t.ram
    ++ codes " " ++ t.path

-- numbers below 2^32, a size of RAM, and a path that is text and not empty
pub record IsTaskEntry (t : TaskEntry) : Type 0 where
  pub budget_fits : t.budget < 2 ^ 32
  pub period_fits : t.period < 2 ^ 32
  pub start_fits : t.start < 2 ^ 32
  pub ram_fits : is_ram_size t.ram ≡ true
  pub some_path : 0 < length t.path
  pub is_text : IsUtf8 t.path

abbrev pub AreTaskEntries : List TaskEntry → Type 0
AreTaskEntries [] = Unit {0}
AreTaskEntries (t ∷ ts) = IsTaskEntry t × AreTaskEntries ts

-- lines of which those that say something are the hyper line and the task lines
pub record AreSetLines (lines : List (List ℕ)) (s : SetEntries) : Type 0 where
  pub said : filter says_something lines ≡ hyper_line s.hyper ∷ map task_line s.tasks
  pub hyper_fits : s.hyper < 2 ^ 32
  pub count : length s.tasks ≤ task_limit
  pub tasks_fit : AreTaskEntries s.tasks

-- a text whose lines spell the set
abbrev pub IsSetFile : List ℕ → SetEntries → Type 0
IsSetFile text s = AreSetLines (set_lines text) s
