-- When a text of one statement gives a word.
use Rattle.std.specs.Prelude.{◌≡◌, ℕ, List, [], ◌∷◌, Some, Ok}
use Rattle.byteorder.specs.Endian.{little_bytes}
use Rattle.rt_image.specs.ObjectFile.{Label}
use Rattle.rt_text.specs.Line.{SourceLine, SourceStatement}
use Rattle.rt_text.specs.Text.{text_lines}
use Rattle.rt_asm.specs.Code.{Code, statement_code, IsCode}

-- the text is one line without labels, and its statement, standing at pc, is the word w, the lowest byte first, whatever
-- labels there are
pub record ReadsBack (text : List ℕ) (pc w : ℕ) : Type 0 where
  pub line : SourceLine
  pub statement : SourceStatement
  pub read : text_lines text ≡ Ok (line ∷ [])
  pub unlabelled : line.labels ≡ []
  pub stated : line.statement ≡ Some statement
  pub placed : (labels : List Label) → (code : Code) × (statement_code labels pc line.statement ≡ Ok code) × IsCode code (little_bytes 4 w)
