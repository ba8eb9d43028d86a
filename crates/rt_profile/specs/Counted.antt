-- What a profile keeps of a task, and how a record changes it.
use Rattle.std.specs.Prelude.{◌≡◌, ℕ, ◌+◌, ◌-◌, ◌*◌, ◌^◌, ◌<◌, ◌≤◌, All, ◌/◌, ◌%◌, ◌==◌, ◌&&◌, nat_le, nat_lt, max, if◌then◌else◌, List, [], ◌∷◌, length, replicate, slice_index, slice_get, slice_set, Option, Some, None}
use Rattle.std.specs.Option.{option_map_or}
use Rattle.rt_words.specs.Base.{base}
use Rattle.rt_words.specs.Limits.{symbol_limit, line_limit, tick_limit}
use Rattle.rt_image.specs.ObjectFile.{Label}
use Rattle.rt_image.specs.SystemFile.{SetTask, task_limit}
use Rattle.rt_history.specs.declared.record.Attempt.{Attempt}
use Rattle.rt_history.specs.declared.record.AttemptOutcome.{AttemptOutcome}
use Rattle.rt_history.specs.Job.{ends_job}
use Rattle.rt_profile.specs.declared.part_count.PartCount.{PartCount}
use Rattle.rt_names.specs.Parts.{part}
use Rattle.rt_profile.specs.NeedCounts.{NeedState, no_needs, ticked, job_done, AreSoundNeeds}

-- The symbols of the task's object; the ticks at each word of RAM; what is counted of each part, by its number; a pc that isn't
-- of a word of RAM; how many jobs are finished, and their needs.
pub record TaskCounts : Type 0 where
  pub labels : List Label
  pub words : List ℕ
  pub parts : List PartCount
  pub outside : Option ℕ
  pub jobs : ℕ
  pub needs : NeedState

-- ---- one part

abbrev pub no_ticks : PartCount
no_ticks = record { ticks = 0; job = 0; begun = 0; most_before = 0 }

-- the most of one job
abbrev pub most_of : PartCount → ℕ
most_of p = max p.most_before (p.ticks - p.begun)

-- the ticks of the job of this number
abbrev pub current_in : ℕ → PartCount → ℕ
current_in job p = if p.job == job then p.ticks - p.begun else 0

-- with the job of this number as its last
abbrev pub behind : ℕ → PartCount → PartCount
behind job p = record { ticks = p.ticks; job = job; begun = p.ticks; most_before = most_of p }

abbrev pub turned : ℕ → PartCount → PartCount
turned job p = if p.job == job then p else behind job p

-- one tick more
abbrev pub passed : ℕ → PartCount → PartCount
passed job p = record (turned job p) { ticks = p.ticks + 1 }

-- ---- one record of a task

-- the number of the word at an address, where it is of one of n words of RAM
abbrev pub word_at : ℕ → ℕ → Option ℕ
word_at n a = if (a % 4 == 0) && (nat_le base a && nat_lt ((a - base) / 4) n) then Some ((a - base) / 4) else None

abbrev pub with_place : ℕ → Option ℕ → TaskCounts → TaskCounts
with_place pc None x = record x { outside = Some pc }
with_place pc (Some w) x = record x { words = slice_set x.words w (slice_index x.words w + 1) }

abbrev pub passed_at : ℕ → List PartCount → ℕ → List PartCount
passed_at job ps k = option_map_or (λ p. slice_set ps k (passed job p)) (slice_get ps k) ps

abbrev pub with_pc : ℕ → TaskCounts → TaskCounts
with_pc pc x = record (with_place pc (word_at (length x.words) pc) x) {
  parts = passed_at x.jobs x.parts (part x.labels pc);
  needs = ticked x.needs;
}

-- the open job is finished
abbrev pub finished : TaskCounts → TaskCounts
finished x = record x { jobs = x.jobs + 1; needs = job_done x.needs }

abbrev pub with_outcome : AttemptOutcome → TaskCounts → TaskCounts
with_outcome o x = if ends_job o then finished x else x

abbrev pub counted : Attempt → TaskCounts → TaskCounts
counted r x = with_outcome r.outcome (with_pc r.pc x)

-- ---- all of them

-- the words of RAM, as many as hold the image too
abbrev pub word_count : SetTask → ℕ
word_count s = (max s.ram (length s.object.bytes) + 3) / 4

abbrev pub first_counts : List Label → ℕ → TaskCounts
first_counts ls n = record {
  labels = ls;
  words = replicate n 0;
  parts = replicate (length ls + 1) no_ticks;
  outside = None;
  jobs = 0;
  needs = no_needs;
}

abbrev pub counted_all : TaskCounts → List Attempt → TaskCounts
counted_all x [] = x
counted_all x (r ∷ rs) = counted_all (counted r x) rs

-- what is kept of a task after these records
abbrev pub counts_of : SetTask → List Attempt → TaskCounts
counts_of s rs = counted_all (first_counts s.object.labels (word_count s)) rs

-- ---- what holds of each profile

-- the labels by their places, and the number of each word's part, of n words, beside m parts and a pc that is no word's
pub record IsTable (ls places : List Label) (table : List ℕ) (n m : ℕ) (outside : Option ℕ) : Type 0 where
  pub few : length ls ≤ symbol_limit
  pub names : All (λ l. length l.name ≤ line_limit) ls
  pub places_are : places ≡ ls
  pub words : n ≤ 2 ^ 18
  pub size : length table ≡ n
  pub parts : m ≡ length ls + 1
  pub value : (w : ℕ) → w < n → slice_index table w ≡ part ls (base + 4 * w)
  pub apart : (a : ℕ) → outside ≡ Some a → word_at n a ≡ None

pub record IsPartWithin (t : ℕ) (p : PartCount) : Type 0 where
  pub ticks : p.ticks ≤ t

-- no number of what is kept of a task is over t
pub record IsSound (t : ℕ) (x : TaskCounts) : Type 0 where
  pub words : All (λ n. n ≤ t) x.words
  pub parts : All (IsPartWithin t) x.parts
  pub jobs : x.jobs ≤ t
  pub needs : AreSoundNeeds t x.needs

pub record IsSoundProfile (t idle : ℕ) (xs : List TaskCounts) : Type 0 where
  pub limit : t ≤ tick_limit
  pub idle_ticks : idle ≤ t
  pub count : length xs ≤ task_limit
  pub tasks : All (IsSound t) xs

-- ---- one entry more

abbrev pub counted_at : Attempt → List TaskCounts → ℕ → List TaskCounts
counted_at r xs i = option_map_or (λ x. slice_set xs i (counted r x)) (slice_get xs i) xs
