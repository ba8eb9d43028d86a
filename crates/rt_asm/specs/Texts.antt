-- The result of assembling a text.
use Rattle.std.specs.Prelude.{◌≡◌, ℕ, List, Result, Ok, Err}
use Rattle.rt_text.specs.Line.{SourceLine}
use Rattle.rt_text.specs.Text.{text_lines}
use Rattle.rt_asm.specs.Placement.{Agrees}
use Rattle.rt_asm.specs.Source.{Program, assembled}
use Rattle.rt_asm.specs.declared.fault.AssembleTextFault.{AssembleTextFault}
use Rattle.rt_asm.specs.declared.fault.AssembleTextFault.TheVariants.{Memory, Text, Source}

-- a refusal is the first fault of the text; where it has lines, that of the lines; or want of memory
abbrev pub IsTextRefusal : AssembleTextFault → List ℕ → Type 0
IsTextRefusal Memory text = Unit {0}
IsTextRefusal (Text fault) text = text_lines text ≡ Err fault
IsTextRefusal (Source fault) text = (lines : List SourceLine) × (text_lines text ≡ Ok lines) × (assembled lines ≡ Err fault)

-- the text has lines that agree with the program's labels and bytes, or it is refused
abbrev pub TextAnswers : List ℕ → Result Program AssembleTextFault → Type 0
TextAnswers text (Ok p) =
    (lines : List SourceLine) × (text_lines text ≡ Ok lines) × Agrees lines p.labels p.bytes × (assembled lines ≡ Ok (p.entry, p.labels))
TextAnswers text (Err fault) = IsTextRefusal fault text
