-- Reading a system file from front to back, with the first refusal that is met.
use Rattle.std.specs.Prelude.{ℕ, zero, suc, Bool, false, List, [], ◌∷◌, length, codes, Option, Some, None, Result, Ok, Err, nat_le, ◌==◌, if◌then◌else◌}
use Rattle.std.specs.Str.{byte}
use Rattle.std.specs.Option.{option_map_or}
use Rattle.rt_words.specs.Chain.{◌>>=◌, when}
use Rattle.rt_words.specs.Limits.{is_ram_size}
use Rattle.rt_image.specs.declared.fault.ImageFault.{ImageFault}
use Rattle.rt_image.specs.declared.fault.ImageFault.TheVariants.{Truncated, Trailing, BadField, BadMagic}
use Rattle.rt_image.specs.declared.system.Version.{Version}
use Rattle.rt_image.specs.declared.system.Version.TheVariants.{One, Two}
use Rattle.rt_image.specs.ObjectReading.{number_at, bytes_at, magic_at, spelled_object}
use Rattle.rt_image.specs.SystemFile.{SetTask, TaskSet, task_limit}

-- the most bytes of an object's file: no spelling has more
abbrev pub file_limit : ℕ
file_limit = 67108864

-- the last byte of the magic
abbrev pub version_of : ℕ → Option Version
version_of digit = if digit == byte "1" then Some One else if digit == byte "2" then Some Two else None

abbrev pub digit_at : List ℕ → Result (Version × List ℕ) ImageFault
digit_at [] = Err Truncated
digit_at (digit ∷ rest) = option_map_or (λ version. Ok (version, rest)) (version_of digit) (Err BadMagic)

-- the version, and the bytes after the magic: a byte that differs comes before an end
unfoldable pub version_at : List ℕ → Result (Version × List ℕ) ImageFault
version_at file = magic_at (codes "RTS") file >>= digit_at

-- the flag of a task, in version Two a number that is 0 or 1
unfoldable pub flags_at : Version → List ℕ → Result (Bool × List ℕ) ImageFault
flags_at One bytes = Ok (false, bytes)
flags_at Two bytes = do
  flags ← number_at 4 bytes
  when (nat_le flags.0 1) BadField (flags.0 == 1, flags.1)

-- what stands before a task's object
pub record Front : Type 0 where
  pub budget : ℕ
  pub period : ℕ
  pub start : ℕ
  pub split : Bool
  pub ram : ℕ
  pub size : ℕ

unfoldable pub front_at : Version → List ℕ → Result (Front × List ℕ) ImageFault
front_at version bytes = do
  budget ← number_at 4 bytes
  period ← number_at 4 budget.1
  start ← number_at 4 period.1
  split ← flags_at version start.1
  ram ← number_at 4 split.1
  after_ram ← when (is_ram_size ram.0) BadField ram.1
  size ← number_at 4 after_ram
  after_size ← when (nat_le size.0 file_limit) BadField size.1
  Ok (record { budget = budget.0; period = period.0; start = start.0; split = split.0; ram = ram.0; size = size.0 }, after_size)

-- a task, whose object's bytes are read alone
unfoldable pub task_at : Version → List ℕ → Result (SetTask × List ℕ) ImageFault
task_at version bytes = do
  front ← front_at version bytes
  file ← bytes_at front.0.size front.1
  object ← spelled_object file.0
  Ok (record { budget = front.0.budget; period = front.0.period; start = front.0.start; split = front.0.split; ram = front.0.ram; object = object }, file.1)

-- so many tasks
unfoldable pub tasks_at : Version → ℕ → List ℕ → Result (List SetTask × List ℕ) ImageFault
tasks_at version zero bytes = Ok ([], bytes)
tasks_at version (suc count) bytes = do
  first ← task_at version bytes
  others ← tasks_at version count first.1
  Ok (first.0 ∷ others.0, others.1)

-- the whole file
unfoldable pub system_of : List ℕ → Result TaskSet ImageFault
system_of file = do
  version ← version_at file
  hyper ← number_at 4 version.1
  count ← number_at 4 hyper.1
  after_count ← when (nat_le count.0 task_limit) BadField count.1
  tasks ← tasks_at version.0 count.0 after_count
  when (length tasks.1 == 0) Trailing (record { version = version.0; hyper = hyper.0; tasks = tasks.0 })
