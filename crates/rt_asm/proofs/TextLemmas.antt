-- The lines of a text, read one by one.
use Rattle.rt_asm.proofs.Common.{◌≡◌, ℕ, ◌+◌, ◌≤◌, List, [], ◌∷◌, ◌++◌, length, Option, Some, None, Result, Ok, Err, sym, ap, subst, ◌∙◌, append_assoc, arith, length-append, All, append-nil, next, base, ◌>>=◌, Label, option_map, AreLabelNames, Meaning, SourceLine, Reading, NextLine, Layout, line_layout, layout, layout_from, fault_at, ArePlaced, Agrees, Program, assembled, end_from, KeptStatement, AsmFault, AsmKind}
use Rattle.std.proofs.lemmas.List.Elements.{All-push}
use Rattle.rt_words.specs.Limits.{image_limit}
use Rattle.rt_text.specs.Reading.{reads}
use Rattle.rt_text.specs.Text.{text_lines}
use Rattle.rt_asm.specs.Source.{started, IsRefusal}
use Rattle.rt_asm.specs.TextFaults.{fault_of_source}
use Rattle.rt_asm.specs.Texts.{TextAnswers, IsTextRefusal}
use Rattle.rt_asm.specs.Working.Emission.{Fails}
use Rattle.rt_asm.specs.Working.Kept.{kept_of, kept_from, place_behind, kept_end, HaveBytes}
use Rattle.rt_asm.specs.AssembleFaults.{AssembleFault}
use Rattle.rt_words.specs.declared.or_memory.OrMemory.TheVariants as assembling
use Rattle.rt_asm.specs.Working.StepFaults.{fault_of_line}
use Rattle.rt_asm.specs.Working.TextSteps.{IsLaidOut, ReadsOn, IsTextFault}
use Rattle.rt_asm.specs.Working.StepFaults.{StepFault}
use Rattle.rt_words.specs.declared.or_memory.OrMemory.TheVariants.{Memory, Fault as Kind}
use Rattle.rt_text.specs.ParseFaults.{ParseFault}
use Rattle.rt_asm.proofs.LayoutLemmas as layouts
use Rattle.rt_asm.proofs.ImageLemmas.{agrees}
use Rattle.rt_asm.proofs.KeptLemmas.{kept_push, kept_place, kept_ends, Placed, kept_placed}

-- ---- the layout

-- a text of which some lines are read, laid out, and kept
pub record Laid (text : List ℕ) (r : Reading) (plan : Layout) (kept : List KeptStatement) : Type 0 where
  pub before : List SourceLine
  pub read : text_lines text ≡ reads r before
  pub laid : (rest : List SourceLine) → layout (before ++ rest) ≡ layout_from r.number plan rest
  pub named : All (λ line. AreLabelNames line.labels) before
  pub counted : r.number ≡ 1 + length before
  pub same : kept ≡ kept_from 1 before

pub line_laid : (text : List ℕ) (r s : Reading) (plan new : Layout) (kept more : List KeptStatement) (line : SourceLine) (n : ℕ) (meaning : Option Meaning) → NextLine r (Ok (Some line)) s
    → AreLabelNames line.labels → line_layout plan line ≡ Ok new → n ≡ r.number → meaning ≡ option_map (λ s. s.meaning) line.statement → more ≡ kept ++ kept_of n meaning
    → Laid text r plan kept → Laid text s new more
line_laid text r s plan new kept more line n meaning step names h number m k l = record {
  before = l.before ++ line ∷ [];
  read = l.read ∙ step.0 l.before;
  laid = λ rest.
      ap layout (append_assoc l.before (line ∷ []) rest) ∙ l.laid (line ∷ rest)
      ∙ ap (λ (x : Result Layout AsmKind). next fault_at r.number x (λ t. layout_from (r.number + 1) t rest)) h
      ∙ ap (λ (n : ℕ). layout_from n new rest) (sym step.2);
  named = All-push (λ line. AreLabelNames line.labels) l.before line l.named names;
  counted = omega (arith, step.2, l.counted, length-append l.before (line ∷ []));
  same =
      k ∙ ap (λ (ks : List KeptStatement). ks ++ kept_of n meaning) l.same ∙ ap (λ (i : ℕ). kept_from 1 l.before ++ kept_of i meaning) (number ∙ l.counted)
      ∙ ap (λ (o : Option Meaning). kept_from 1 l.before ++ kept_of (1 + length l.before) o) m ∙ sym (kept_push 1 l.before line);
}

pub all_laid : (text : List ℕ) (r s : Reading) (plan : Layout) (kept : List KeptStatement) → NextLine r (Ok None) s → Laid text r plan kept → IsLaidOut text plan kept
all_laid text r s plan kept step l = record {
  lines = l.before;
  read = l.read ∙ step l.before;
  laid = ap layout (sym (append-nil l.before)) ∙ l.laid [];
  named = l.named;
  same = l.same;
}

-- a line that can't be laid out, in a text of lines
pub not_laid : (text : List ℕ) (r s : Reading) (plan : Layout) (kept : List KeptStatement) (line : SourceLine) (kind : AsmKind) → NextLine r (Ok (Some line)) s → line_layout plan line ≡ Err kind
    → ReadsOn s → Laid text r plan kept → (lines : List SourceLine) × (text_lines text ≡ Ok lines) × (assembled lines ≡ Err (fault_at r.number kind))
not_laid text r s plan kept line kind step h on l =
    let others : (after : List SourceLine) × (reads s (l.before ++ line ∷ []) ≡ Ok ((l.before ++ line ∷ []) ++ after)) = on (l.before ++ line ∷ []) in
    let failed : layout ((l.before ++ line ∷ []) ++ others.0) ≡ Err (fault_at r.number kind) =
    ap layout (append_assoc l.before (line ∷ []) others.0) ∙ l.laid (line ∷ others.0)
    ∙ ap (λ (x : Result Layout AsmKind). next fault_at r.number x (λ t. layout_from (r.number + 1) t others.0)) h in (
      (l.before ++ line ∷ []) ++ others.0,
      l.read ∙ step.0 l.before ∙ others.1,
      ap (λ (x : Result Layout AsmFault). x >>= (λ plan. end_from plan.labels 1 base ((l.before ++ line ∷ []) ++ others.0) >>= (λ end. started plan.labels))) failed,
    )

-- a step of the layout that fails
pub layout_refused : (text : List ℕ) (r s : Reading) (plan : Layout) (kept : List KeptStatement) (line : SourceLine) (fault : StepFault) → NextLine r (Ok (Some line)) s → Fails fault (line_layout plan line)
    → ReadsOn s → Laid text r plan kept → IsTextRefusal (fault_of_source (fault_of_line r.number fault)) text
layout_refused text r s plan kept line Memory step h on l = tt
layout_refused text r s plan kept line (Kind kind) step h on l = not_laid text r s plan kept line kind step h on l

-- ---- the bytes

-- what is kept stands within the limits
pub record Within (plan : Layout) (kept : List KeptStatement) : Type 0 where
  pub sized : place_behind base kept ≡ Ok plan.place
  pub low : plan.place ≤ base + image_limit

pub within : (text : List ℕ) (plan : Layout) (kept : List KeptStatement) → IsLaidOut text plan kept → Within plan kept
within text plan kept source = record {
  sized = ap (place_behind base) source.same ∙ kept_place 1 (record { place = base; labels = [] }) source.lines plan source.laid;
  low = (layouts.kept 1 (record { place = base; labels = [] }) source.lines plan source.laid).low (omega arith);
}

-- the answer of the lines follows from the end of what is kept
ends_in : (text : List ℕ) (plan : Layout) (kept : List KeptStatement) (source : IsLaidOut text plan kept) (r : Result ℕ AsmFault) → kept_end plan.labels base kept ≡ r
    → assembled source.lines ≡ r >>= (λ end. started plan.labels)
ends_in text plan kept source r h =
    let ends : end_from plan.labels 1 base source.lines ≡ r = sym (ap (kept_end plan.labels base) source.same ∙ kept_ends plan.labels 1 base source.lines) ∙ h in
    ap (λ (x : Result Layout AsmFault). x >>= (λ plan. end_from plan.labels 1 base source.lines >>= (λ end. started plan.labels))) source.laid
    ∙ ap (λ (x : Result ℕ AsmFault). x >>= (λ end. started plan.labels)) ends

-- a fault of what is kept is that of the lines
pub bytes_refused : (text : List ℕ) (plan : Layout) (kept : List KeptStatement) (fault : AssembleFault) → IsLaidOut text plan kept → IsRefusal fault (kept_end plan.labels base kept)
    → IsTextRefusal (fault_of_source fault) text
bytes_refused text plan kept assembling.Memory source h = tt
bytes_refused text plan kept (assembling.Fault fault) source h = (source.lines, source.read, ends_in text plan kept source (Err fault) h)

-- the lines have the bytes of what is kept
pub record Built (plan : Layout) (lines : List SourceLine) (bytes : List ℕ) : Type 0 where
  pub placed : ArePlaced plan.labels base lines plan.labels bytes
  pub ends : assembled lines ≡ started plan.labels

pub built : (text : List ℕ) (plan : Layout) (kept : List KeptStatement) (bytes : List ℕ) → (source : IsLaidOut text plan kept) → HaveBytes plan.labels base kept bytes
    → kept_end plan.labels base kept ≡ Ok (base + length bytes) → Built plan source.lines bytes
built text plan kept bytes source have end =
    let first : Layout = record { place = base; labels = [] } in
    let p : Placed plan.labels first source.lines plan bytes =
    kept_placed plan.labels 1 first source.lines plan bytes source.laid (subst (λ (ks : List KeptStatement). HaveBytes plan.labels base ks bytes) source.same have) in
    record {
      placed = subst (λ (ls : List Label). ArePlaced plan.labels base source.lines ls bytes) (sym p.names) p.placed;
      ends = ends_in text plan kept source (Ok (base + length bytes)) end;
    }

-- without an entry there is no image
pub start_refused : (text : List ℕ) (plan : Layout) (kept : List KeptStatement) (bytes : List ℕ) (labels : List Label) (fault : AssembleFault) → (source : IsLaidOut text plan kept)
    → Built plan source.lines bytes → labels ≡ plan.labels → IsRefusal fault (started labels) → IsTextRefusal (fault_of_source fault) text
start_refused text plan kept bytes labels assembling.Memory source b same h = tt
start_refused text plan kept bytes labels (assembling.Fault fault) source b same h = (source.lines, source.read, b.ends ∙ ap started (sym same) ∙ h)

-- with one there is
pub answered : (text : List ℕ) (plan : Layout) (kept : List KeptStatement) (bytes : List ℕ) (labels : List Label) (p : Program) → (source : IsLaidOut text plan kept)
    → Built plan source.lines bytes → labels ≡ plan.labels → p.labels ≡ labels → p.bytes ≡ bytes → started labels ≡ Ok (p.entry, p.labels) → TextAnswers text (Ok p)
answered text plan kept bytes labels p source b same named filled h = (
  source.lines,
  source.read,
  subst (Agrees source.lines p.labels) (sym filled) (agrees source.lines plan p.labels bytes source.laid b.placed (named ∙ same)),
  b.ends ∙ ap started (sym same) ∙ h,
)

-- ---- the rest of a text

-- lines that were read since then go behind those before
abbrev pub ReadSince : Reading → Reading → Type 0
ReadSince first r = (before : List SourceLine) → (here : List SourceLine) × (reads first before ≡ reads r (before ++ here))

pub line_since : (first r s : Reading) (line : SourceLine) → NextLine r (Ok (Some line)) s → ReadSince first r → ReadSince first s
line_since first r s line step since = λ before.
    let so : (here : List SourceLine) × (reads first before ≡ reads r (before ++ here)) = since before in
    (so.0 ++ line ∷ [], so.1 ∙ step.0 (before ++ so.0) ∙ ap (reads s) (append_assoc before so.0 (line ∷ [])))

pub all_since : (first r s : Reading) → NextLine r (Ok None) s → ReadSince first r → ReadsOn first
all_since first r s step since = λ before.
    let so : (here : List SourceLine) × (reads first before ≡ reads r (before ++ here)) = since before in
    (so.0, so.1 ∙ step (before ++ so.0))

pub fault_since : (first r s : Reading) (fault : ParseFault) → NextLine r (Err fault) s → ReadSince first r → IsTextFault fault first
fault_since first r s assembling.Memory step since = tt
fault_since first r s (assembling.Fault fault) step since = λ before.
    let so : (here : List SourceLine) × (reads first before ≡ reads r (before ++ here)) = since before in
    so.1 ∙ step (before ++ so.0)
