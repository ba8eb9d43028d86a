-- The statements of a text that are kept, with the numbers of their lines.
use Rattle.std.specs.Prelude.{ℕ, ◌≡◌, ◌+◌, List, [], ◌∷◌, ◌++◌, length, Option, Some, None, Result, Ok}
use Rattle.std.specs.Option.{option_map}
use Rattle.rt_image.specs.ObjectFile.{Label}
use Rattle.rt_text.specs.Line.{SourceLine}
use Rattle.rt_text.specs.declared.meaning.Meaning.{Meaning}
use Rattle.rt_words.specs.Chain.{◌>>=◌, mapped}
use Rattle.rt_words.specs.Run.{next}
use Rattle.rt_asm.specs.Code.{Code, code_of, code_size, IsCode}
use Rattle.rt_asm.specs.Layout.{fault_at}
use Rattle.rt_asm.specs.Size.{size_of}
use Rattle.rt_asm.specs.declared.kept.KeptStatement.{KeptStatement}
use Rattle.rt_asm.specs.declared.fault.AsmKind.{AsmKind}
use Rattle.rt_asm.specs.declared.fault.AsmFault.{AsmFault}

-- what is kept of line n, whose statement means this
abbrev pub kept_of : ℕ → Option Meaning → List KeptStatement
kept_of n None = []
kept_of n (Some meaning) = record { line = n; meaning = meaning } ∷ []

-- what is kept of lines of which the first is line n
abbrev pub kept_from : ℕ → List SourceLine → List KeptStatement
kept_from n [] = []
kept_from n (l ∷ ls) = kept_of n (option_map (λ s. s.meaning) l.statement) ++ kept_from (n + 1) ls

-- where statements end of which the first stands at place, by their sizes
abbrev pub place_behind : ℕ → List KeptStatement → Result ℕ AsmKind
place_behind place [] = Ok place
place_behind place (k ∷ ks) = size_of place k.meaning >>= (λ size. place_behind (place + size) ks)

-- where they end, or the first fault of their operands
abbrev pub kept_end : List Label → ℕ → List KeptStatement → Result ℕ AsmFault
kept_end labels place [] = Ok place
kept_end labels place (k ∷ ks) =
    next fault_at k.line (mapped (λ code. place + code_size code) (code_of labels place k.meaning)) (λ end. kept_end labels end ks)

-- they have these bytes
abbrev pub HaveBytes : List Label → ℕ → List KeptStatement → List ℕ → Type 0
HaveBytes labels place [] bytes = bytes ≡ []
HaveBytes labels place (k ∷ ks) bytes =
    (code : Code) × (here : List ℕ) × (rest : List ℕ) × (code_of labels place k.meaning ≡ Ok code) × IsCode code here × (bytes ≡ here ++ rest)
    × HaveBytes labels (place + length here) ks rest
