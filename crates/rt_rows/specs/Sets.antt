-- How the sets of the rows are written: the words of programs, and tasks that run them from tick 0 on, in 64 bytes of RAM.
use Rattle.std.specs.Prelude.{ℕ, ◌/◌, ◌%◌, ◌^◌, false, List, [], ◌∷◌}
use Rattle.std.specs.List.{flat_map}
use Rattle.rt_words.specs.Base.{base}
use Rattle.rt_image.specs.declared.system.Version.TheVariants.{Two}
use Rattle.rt_image.specs.ObjectFile.{ObjectValue}
use Rattle.rt_image.specs.SystemFile.{SetTask, TaskSet}

-- the bytes of a word, low byte first
abbrev pub word_bytes : ℕ → List ℕ
word_bytes w = w % 256 ∷ w / 2 ^ 8 % 256 ∷ w / 2 ^ 16 % 256 ∷ w / 2 ^ 24 ∷ []

-- the image of these words, from the first address of RAM on, where it begins
abbrev pub spelled_object : List ℕ → ObjectValue
spelled_object words = record { entry = base; bytes = flat_map word_bytes words; labels = [] }

-- a task of this budget and period
abbrev pub task : ℕ → ℕ → List ℕ → SetTask
task budget period words = record { budget = budget; period = period; start = 0; split = false; ram = 64; object = spelled_object words }

-- a set of this hyperperiod
abbrev pub set_of : ℕ → List SetTask → TaskSet
set_of hyper tasks = record { version = Two; hyper = hyper; tasks = tasks }

-- one task, whose period is the hyperperiod
abbrev pub one : ℕ → ℕ → List ℕ → TaskSet
one budget period words = set_of period (task budget period words ∷ [])

-- j .
abbrev pub busy : List ℕ
busy = 0x0000006F ∷ []
