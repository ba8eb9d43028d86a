-- The lines of a whole text.
use Rattle.std.specs.Prelude.{ℕ, ◌≡◌, List, [], ◌∷◌, ◌++◌, Result, Ok, Err}
use Rattle.rt_words.specs.Run.{run}
use Rattle.rt_token.specs.SourceLines.{source_lines}
use Rattle.rt_text.specs.Line.{SourceLine}
use Rattle.rt_text.specs.Statement.{line_at}
use Rattle.rt_text.specs.declared.fault.TextKind.{TextKind}
use Rattle.rt_text.specs.declared.fault.TextFault.{TextFault}
use Rattle.rt_text.specs.ParseFaults.{ParseFault}
use Rattle.rt_words.specs.declared.or_memory.OrMemory.TheVariants.{Memory, Fault as Text}

abbrev pub appended : List SourceLine → Result SourceLine TextKind → Result (List SourceLine) TextKind
appended lines (Ok line) = Ok (lines ++ line ∷ [])
appended lines (Err kind) = Err kind

abbrev pub fault_at : ℕ → TextKind → TextFault
fault_at n kind = record { line = n; kind = kind }

-- reads lines behind those that were read, the first of them being line n of its text
abbrev pub read_from : ℕ → List SourceLine → List (ℕ × List ℕ) → Result (List SourceLine) TextFault
read_from n lines rest = run fault_at (λ before line. appended before (line_at line.0 line.1)) n lines rest

-- the lines of a text, or the first fault in it; lines count from 1
abbrev pub text_lines : List ℕ → Result (List SourceLine) TextFault
text_lines text = read_from 1 [] (source_lines 0 text)

-- a refusal is the text's first fault, or want of memory
abbrev pub IsRefusal : ParseFault → Result (List SourceLine) TextFault → Type 0
IsRefusal Memory reading = Unit {0}
IsRefusal (Text fault) reading = reading ≡ Err fault
