-- When lines, labels and bytes agree: the meaning of assembly.
use Rattle.std.specs.Prelude.{◌≡◌, ◌≢◌, ℕ, ◌+◌, List, [], ◌∷◌, ◌++◌, length, All, Ok}
use Rattle.rt_words.specs.Base.{base}
use Rattle.rt_image.specs.ObjectFile.{Label}
use Rattle.rt_text.specs.Line.{SourceLine}
use Rattle.rt_asm.specs.Code.{Code, statement_code, IsCode}
use Rattle.rt_asm.specs.Labels.{labels_at}

-- Lines of which the first stands at place have these labels and bytes, where `known` are the labels that their targets
-- name: each statement stands where the bytes of the one before it end.
abbrev pub ArePlaced : List Label → ℕ → List SourceLine → List Label → List ℕ → Type 0
ArePlaced known place [] labels bytes = (labels ≡ []) × (bytes ≡ [])
ArePlaced known place (l ∷ ls) labels bytes =
    (code : Code) × (here : List ℕ) × (later : List Label) × (rest : List ℕ)
    × (statement_code known place l.statement ≡ Ok code) × IsCode code here
    × (labels ≡ labels_at place l.labels ++ later) × (bytes ≡ here ++ rest)
    × ArePlaced known (place + length here) ls later rest

-- no name is defined twice
abbrev pub AreApart : List Label → Type 0
AreApart [] = Unit {0}
AreApart (l ∷ ls) = All (λ m. l.name ≢ m.name) ls × AreApart ls

-- the lines have exactly these labels, each defined once, and exactly these bytes under them
pub record Agrees (lines : List SourceLine) (labels : List Label) (bytes : List ℕ) : Type 0 where
  pub placed : ArePlaced labels base lines labels bytes
  pub apart : AreApart labels
