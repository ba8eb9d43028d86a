-- The layout of a source: the offset of each statement, and the first fault.
use Rattle.std.specs.Prelude.{ℕ, ◌+◌, ◌||◌, nat_lt, length, is_some, if◌then◌else◌, List, [], ◌∷◌, ◌++◌, Result, Ok, Err}
use Rattle.rt_words.specs.Base.{base}
use Rattle.rt_words.specs.Limits.{image_limit, symbol_limit}
use Rattle.rt_image.specs.ObjectFile.{Label}
use Rattle.rt_text.specs.Line.{SourceLine}
use Rattle.rt_words.specs.Run.{run}
use Rattle.rt_token.specs.Slice.{Slice}
use Rattle.rt_asm.specs.Labels.{address_in}
use Rattle.rt_asm.specs.Size.{statement_size}
use Rattle.rt_words.specs.Chain.{◌>>=◌}
use Rattle.rt_asm.specs.declared.fault.AsmKind.{AsmKind}
use Rattle.rt_asm.specs.declared.fault.AsmKind.TheVariants.{DuplicateLabel, TooLarge}
use Rattle.rt_asm.specs.declared.fault.AsmFault.{AsmFault}

-- where the next statement stands, and the labels so far
pub record Layout : Type 0 where
  pub place : ℕ
  pub labels : List Label

-- the labels with one more of them
abbrev pub with_label : ℕ → List Label → List ℕ → Result (List Label) AsmKind
with_label place labels name =
    if is_some (address_in labels name) then Err DuplicateLabel else Ok (labels ++ record { name = name; address = place } ∷ [])

-- the labels with those of a line that stands at place
abbrev pub with_labels : ℕ → List Label → List Slice → Result (List Label) AsmKind
with_labels place labels [] = Ok labels
with_labels place labels (s ∷ ss) = do
  more ← with_label place labels s.text
  with_labels place more ss

-- an image and its labels are no more than an object may have
abbrev pub within_limits : ℕ → List Label → Result Layout AsmKind
within_limits place labels =
    if nat_lt (base + image_limit) place || nat_lt symbol_limit (length labels) then Err TooLarge else Ok (record { place = place; labels = labels })

-- the layout after one line more: its labels, then its size, then the limits
abbrev pub line_layout : Layout → SourceLine → Result Layout AsmKind
line_layout before line = do
  labels ← with_labels before.place before.labels line.labels
  size ← statement_size before.place line.statement
  within_limits (before.place + size) labels

abbrev pub fault_at : ℕ → AsmKind → AsmFault
fault_at n kind = record { line = n; kind = kind }

-- the layout after lines of which the first is line n
abbrev pub layout_from : ℕ → Layout → List SourceLine → Result Layout AsmFault
layout_from n before lines = run fault_at line_layout n before lines

-- the layout of a whole source; lines count from 1
abbrev pub layout : List SourceLine → Result Layout AsmFault
layout lines = layout_from 1 (record { place = base; labels = [] }) lines
