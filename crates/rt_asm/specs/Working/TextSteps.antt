-- What the steps of assembling a text answer.
use Rattle.std.specs.Prelude.{◌≡◌, ℕ, List, ◌++◌, All, Ok, Err}
use Rattle.rt_text.specs.LabelName.{AreLabelNames}
use Rattle.rt_text.specs.Line.{SourceLine}
use Rattle.rt_text.specs.Reading.{Reading, reads}
use Rattle.rt_text.specs.Text.{text_lines}
use Rattle.rt_text.specs.ParseFaults.{ParseFault}
use Rattle.rt_words.specs.declared.or_memory.OrMemory.TheVariants as parsing
use Rattle.rt_asm.specs.Layout.{Layout, layout}
use Rattle.rt_asm.specs.Working.Kept.{kept_from}
use Rattle.rt_asm.specs.declared.kept.KeptStatement.{KeptStatement}

-- the text has lines, which are laid out so, and of which this is kept
pub record IsLaidOut (text : List ℕ) (plan : Layout) (kept : List KeptStatement) : Type 0 where
  pub lines : List SourceLine
  pub read : text_lines text ≡ Ok lines
  pub laid : layout lines ≡ Ok plan
  pub named : All (λ line. AreLabelNames line.labels) lines
  pub same : kept ≡ kept_from 1 lines

-- the lines that are left are lines, whichever were read before
abbrev pub ReadsOn : Reading → Type 0
ReadsOn r = (before : List SourceLine) → (after : List SourceLine) × (reads r before ≡ Ok (before ++ after))

-- a fault of the lines that are left is that of the text
abbrev pub IsTextFault : ParseFault → Reading → Type 0
IsTextFault parsing.Memory r = Unit {0}
IsTextFault (parsing.Fault fault) r = (before : List SourceLine) → reads r before ≡ Err fault
