-- A draft of an image: the bytes of the statements that are known, and the statements that are left.
use Rattle.std.specs.Prelude.{ℕ, ◌≡◌, ◌+◌, List, [], ◌∷◌, ◌++◌, length, Ok}
use Rattle.rt_isa.specs.declared.instruction.Ins.{Ins}
use Rattle.rt_image.specs.ObjectFile.{Label}
use Rattle.rt_words.specs.Base.{base}
use Rattle.rt_asm.specs.Code.{Instructions, code_of, AreWords}
use Rattle.rt_asm.specs.Layout.{Layout}
use Rattle.rt_asm.specs.Size.{size_of}
use Rattle.rt_asm.specs.Working.TextSteps.{IsLaidOut}
use Rattle.rt_asm.specs.declared.kept.KeptStatement.{KeptStatement}
use Rattle.rt_asm.specs.declared.kept.LeftStatement.{LeftStatement}

-- a statement whose bytes are known, or one that is left
pub data Part : Type 0 where
  Known : KeptStatement → List ℕ → Part
  Left : KeptStatement → Part

abbrev pub statement_of : Part → KeptStatement
statement_of (Known k bytes) = k
statement_of (Left k) = k

abbrev pub statements : List Part → List KeptStatement
statements [] = []
statements (p ∷ ps) = statement_of p ∷ statements ps

-- a statement that is left, with so many bytes known before it
abbrev pub left_after : ℕ → KeptStatement → LeftStatement
left_after n k = record { before = n; statement = k }

-- the bytes that are known, one after the other
abbrev pub known_bytes : List Part → List ℕ
known_bytes [] = []
known_bytes (Known k bytes ∷ ps) = bytes ++ known_bytes ps
known_bytes (Left k ∷ ps) = known_bytes ps

-- the statements that are left, where n bytes are known before
abbrev pub left_behind : ℕ → List Part → List LeftStatement
left_behind n [] = []
left_behind n (Known k bytes ∷ ps) = left_behind (n + length bytes) ps
left_behind n (Left k ∷ ps) = left_after n k ∷ left_behind n ps

-- what is known of a statement at place are the words of its instructions
abbrev pub IsPart : List Label → ℕ → Part → Type 0
IsPart labels place (Known k bytes) = (xs : List Ins) × (code_of labels place k.meaning ≡ Ok (Instructions xs)) × AreWords xs bytes
IsPart labels place (Left k) = Unit {0}

-- the parts stand from place to end
abbrev pub AreParts : List Label → ℕ → ℕ → List Part → Type 0
AreParts labels end place [] = place ≡ end
AreParts labels end place (p ∷ ps) =
    (size : ℕ) × (size_of place (statement_of p).meaning ≡ Ok size) × IsPart labels place p × AreParts labels end (place + size) ps

-- these bytes and statements are the draft of all that is kept
pub record IsDraft (labels : List Label) (end : ℕ) (kept : List KeptStatement) (bytes : List ℕ) (left : List LeftStatement) : Type 0 where
  pub parts : List Part
  pub same : kept ≡ statements parts
  pub known : bytes ≡ known_bytes parts
  pub rest : left ≡ left_behind 0 parts
  pub placed : AreParts labels end base parts

-- the text is laid out so, and this is its draft
pub record IsDrafted (text : List ℕ) (plan : Layout) (bytes : List ℕ) (left : List LeftStatement) : Type 0 where
  pub kept : List KeptStatement
  pub laid : IsLaidOut text plan kept
  pub draft : IsDraft plan.labels plan.place kept bytes left

-- a draft with what is kept of one line more, whose statement stands at place
abbrev pub Drafts : List Label → ℕ → List ℕ → List ℕ → List LeftStatement → List LeftStatement → List KeptStatement → Type 0
Drafts labels place old new left more [] = (new ≡ old) × (more ≡ left)
Drafts labels place old new left more (k ∷ ks) =
    (p : Part) × (statement_of p ≡ k) × IsPart labels place p × (new ≡ old ++ known_bytes (p ∷ [])) × (more ≡ left ++ left_behind (length old) (p ∷ []))
