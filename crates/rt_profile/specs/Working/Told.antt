-- What a profile tells, from what it keeps.
use Rattle.std.specs.Prelude.{◌≡◌, ℕ, ◌^◌, ◌≤◌, ◌+◌, ◌-◌, ◌/◌, ◌==◌, nat_lt, Bool, false, if◌then◌else◌, List, [], ◌∷◌, ◌++◌, length, map, slice_index, slice_get, Option, Some, None}
use Rattle.std.specs.List.{flat_map, enumerate_from}
use Rattle.std.specs.Option.{option_map, option_map_or}
use Rattle.rt_words.specs.Base.{base}
use Rattle.rt_image.specs.ObjectFile.{label}
use Rattle.rt_profile.specs.declared.row.Row.{Row}
use Rattle.rt_names.specs.Parts.{part, namer}
use Rattle.rt_profile.specs.Rows.{placed, PartRow, firsts}
use Rattle.rt_profile.specs.RowsText.{header_text, row_text}
use Rattle.rt_report.specs.ReportText.{idle_text}
use Rattle.rt_profile.specs.declared.part_count.PartCount.{PartCount}
use Rattle.rt_profile.specs.CallgrindText.{callgrind_header, task_costs, totals_line}
use Rattle.rt_profile.specs.declared.form.ProfileForm.{ProfileForm}
use Rattle.rt_profile.specs.declared.form.ProfileForm.TheVariants.{Rows, Needs, Callgrind}
use Rattle.rt_profile.specs.Standing.{ProfileState}
use Rattle.rt_profile.specs.Counted.{TaskCounts, no_ticks, most_of, word_at}
use Rattle.rt_profile.specs.Working.NeedsTold.{kept_needs_text}

-- the number in RAM of the first word at an address or above it
abbrev pub first_word : ℕ → ℕ
first_word a = (a - base + 3) / 4

-- the addresses of words with ticks, of which the first word is at address a
abbrev pub executed_from : ℕ → List ℕ → List ℕ
executed_from a [] = []
executed_from a (n ∷ ns) = if n == 0 then executed_from (a + 4) ns else a ∷ executed_from (a + 4) ns

-- and one that is no word's
abbrev pub with_outside : Option ℕ → List ℕ → List ℕ
with_outside None later = later
with_outside (Some a) later = placed a later

-- there is such an address, and it stands below another
abbrev pub is_below : Option ℕ → ℕ → Bool
is_below None a = false
is_below (Some b) a = nat_lt b a

-- the addresses with ticks
abbrev pub executed : TaskCounts → List ℕ
executed x = with_outside x.outside (executed_from base x.words)

-- the ticks at an address that is no word's
abbrev pub outside_at : Option ℕ → ℕ → ℕ
outside_at None a = 0
outside_at (Some b) a = if b == a then 1 else 0

abbrev pub at_place : List ℕ → Option ℕ → Option ℕ → ℕ → ℕ
at_place words outside None a = outside_at outside a
at_place words outside (Some w) a = slice_index words w

-- the ticks at an address
abbrev pub kept_at : TaskCounts → ℕ → ℕ
kept_at x a = at_place x.words x.outside (word_at (length x.words) a) a

abbrev pub part_with : List PartCount → ℕ → PartCount
part_with ps k = option_map_or (λ p. p) (slice_get ps k) no_ticks

-- the row of the part of an address
abbrev pub kept_row : ℕ → TaskCounts → ℕ → PartRow
kept_row i x a = record {
  task = i;
  symbol = namer x.labels a;
  ticks = (part_with x.parts (part x.labels a)).ticks;
  entered = option_map_or (λ l. kept_at x l.address) (namer x.labels a) 0;
  most = most_of (part_with x.parts (part x.labels a));
}

-- what a row of the program stands for
abbrev pub told : Row → PartRow
told r = record { task = r.task; symbol = option_map label r.symbol; ticks = r.ticks; entered = r.entered; most = r.most }

-- a walk from word `at` on, over addresses that are apart
pub record IsWalk (at : ℕ) (words : List ℕ) (outside : Option ℕ) : Type 0 where
  pub within : at ≤ length words
  pub few : length words ≤ 2 ^ 18
  pub apart : (a : ℕ) → outside ≡ Some a → word_at (length words) a ≡ None

-- the lines of task i
abbrev pub kept_lines : ℕ → TaskCounts → List ℕ
kept_lines i x = flat_map row_text (map (kept_row i x) (firsts x.labels None (executed x)))

-- the text of these tasks and so many idle ticks
abbrev pub kept_text : ℕ → List TaskCounts → List ℕ
kept_text idle xs = header_text ++ flat_map (λ n. kept_lines n.0 n.1) (enumerate_from 0 xs) ++ idle_text idle

-- ticks by address of task i
abbrev pub kept_costs : ℕ → TaskCounts → List ℕ
kept_costs i x = task_costs i x.labels (kept_at x) (executed x)

abbrev pub kept_callgrind : ℕ → List TaskCounts → List ℕ
kept_callgrind busy xs = callgrind_header ++ flat_map (λ n. kept_costs n.0 n.1) (enumerate_from 0 xs) ++ totals_line busy

-- the text of each form
abbrev pub kept_form : ProfileForm → ProfileState → List ℕ
kept_form Rows p = kept_text p.idle p.tasks
kept_form Needs p = kept_needs_text p.tasks
kept_form Callgrind p = kept_callgrind (p.tick - p.idle) p.tasks
