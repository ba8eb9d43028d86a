-- What the assembly of a source file means.
use Rattle.std.specs.Prelude.{◌≡◌, ℕ, List, Result, Ok, Err, IsPermutation}
use Rattle.rt_image.specs.ObjectFile.{Label, ObjectValue, IsObject, spelling}
use Rattle.rt_text.specs.Line.{SourceLine}
use Rattle.rt_text.specs.Text.{text_lines}
use Rattle.rt_asm.specs.Placement.{Agrees}
use Rattle.rt_asm.specs.Source.{assembled}
use Rattle.rt_opening.specs.declared.fault.SimFault.{SimFault}
use Rattle.rt_opening.specs.declared.fault.SimFault.TheVariants as faults

-- The file is the object file of the lines: its image has their bytes and begins at `_start`, and its symbols are their
-- labels in the order of their names' bytes.
pub record Assembles (lines : List SourceLine) (file : List ℕ) : Type 0 where
  pub object : ObjectValue
  pub labels : List Label
  pub valid : IsObject object
  pub spelled : file ≡ spelling object
  pub agrees : Agrees lines labels object.bytes
  pub entered : assembled lines ≡ Ok (object.entry, labels)
  pub named : IsPermutation labels object.labels

-- the object file of a source, or why there is none
abbrev pub AsmMeans : List ℕ → Result (List ℕ) SimFault → Type 0
AsmMeans source (Ok file) = (lines : List SourceLine) × (text_lines source ≡ Ok lines) × Assembles lines file
AsmMeans source (Err (faults.Text fault)) = text_lines source ≡ Err fault
AsmMeans source (Err (faults.Source fault)) = (lines : List SourceLine) × (text_lines source ≡ Ok lines) × (assembled lines ≡ Err fault)
AsmMeans source (Err fault) = ⊥
