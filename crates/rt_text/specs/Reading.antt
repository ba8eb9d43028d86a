-- A text that is read line by line.
use Rattle.std.specs.Prelude.{ℕ, ◌≡◌, ◌<◌, ◌+◌, List, [], ◌∷◌, ◌++◌, length, Option, Some, None, Result, Ok, Err}
use Rattle.std.specs.Result.{result_err}
use Rattle.rt_text.specs.Line.{SourceLine}
use Rattle.rt_text.specs.Statement.{line_at}
use Rattle.rt_text.specs.Text.{read_from}
use Rattle.rt_text.specs.declared.fault.TextFault.{TextFault}
use Rattle.rt_text.specs.declared.fault.TextKind.{TextKind}
use Rattle.rt_text.specs.ParseFaults.{ParseFault}
use Rattle.rt_words.specs.declared.or_memory.OrMemory.TheVariants.{Memory, Fault as Text}

-- the lines that are left, each with the place of its first byte, and the number of the first of them
pub record Reading : Type 0 where
  pub number : ℕ
  pub lines : List (ℕ × List ℕ)

-- what the whole text is read as, where these lines were read before those that are left
abbrev pub reads : Reading → List SourceLine → Result (List SourceLine) TextFault
reads r before = read_from r.number before r.lines

-- what reading the next line answers: the line, with fewer left; none at the end; or the text's first fault
abbrev pub NextLine : Reading → Result (Option SourceLine) ParseFault → Reading → Type 0
NextLine r (Ok None) s = (before : List SourceLine) → reads r before ≡ Ok before
NextLine r (Ok (Some line)) s =
    ((before : List SourceLine) → reads r before ≡ reads s (before ++ line ∷ [])) × (length s.lines < length r.lines) × (s.number ≡ r.number + 1)
NextLine r (Err Memory) s = Unit {0}
NextLine r (Err (Text fault)) s = (before : List SourceLine) → reads r before ≡ Err fault

-- what passing the next line answers: its fault, if it has one, with that line fewer left; none at the end
abbrev pub Passes : Reading → Option (Option TextKind) → Reading → Type 0
Passes r None s = r.lines ≡ []
Passes r (Some fault) s =
    (line : ℕ × List ℕ) × (r.lines ≡ line ∷ s.lines) × (fault ≡ result_err (line_at line.0 line.1)) × (s.number ≡ r.number + 1)
