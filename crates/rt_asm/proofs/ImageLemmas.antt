-- The bytes of a source, line by line.
use Rattle.rt_asm.proofs.Common.{◌≡◌, ℕ, ◌+◌, ◌≤◌, ◌<◌, List, [], ◌∷◌, ◌++◌, length, get_or, drop, Result, Ok, refl, sym, ap, subst, ◌∙◌, append_assoc, arith, add-one, length-append, append-nil, Label, SourceLine, next, Code, statement_code, code_size, labels_at, Layout, layout, layout_from, fault_at, base, ArePlaced, Agrees, end_from, mapped, AsmKind}
use Rattle.std.proofs.Common.{drop-cons}
use Rattle.rt_asm.specs.Working.Emission.{AppendsCode}
use Rattle.rt_asm.proofs.LayoutLemmas.{names_behind, LineLaid, line_laid, Laid, laid, kept}
use Rattle.rt_asm.proofs.SizeLemmas.{statement_len, code_bytes}

-- a source of which so many lines have their bytes in out
pub record Progress (lines : List SourceLine) (plan : Layout) (index : ℕ) (out : List ℕ) : Type 0 where
  pub sofar : List Label
  pub left : layout_from (index + 1) (record { place = base + length out; labels = sofar }) (drop index lines) ≡ Ok plan
  pub low : base + length out ≤ 0x80100000
  pub checked : end_from plan.labels 1 base lines ≡ end_from plan.labels (index + 1) (base + length out) (drop index lines)
  pub placed : (later : List Label) (rest : List ℕ) → ArePlaced plan.labels (base + length out) (drop index lines) later rest → ArePlaced plan.labels base lines (sofar ++ later) (out ++ rest)

-- the next line
pub forward : (lines : List SourceLine) (plan : Layout) (index : ℕ) (out new : List ℕ) (d : SourceLine) → index < length lines → Progress lines plan index out
    → AppendsCode out new (statement_code plan.labels (base + length out) (get_or lines index d).statement) → Progress lines plan (index + 1) new
forward lines plan index out new d h p a =
    let line : SourceLine = get_or lines index d in
    let place : ℕ = base + length out in
    let cut : drop index lines ≡ line ∷ drop (index + 1) lines = drop-cons lines index d h ∙ ap (λ (n : ℕ). line ∷ drop n lines) (sym (add-one index)) in
    let here : Laid (index + 1) (record { place = place; labels = p.sofar }) line (drop (index + 1) lines) plan =
    laid (index + 1) _ line (drop (index + 1) lines) plan (subst (λ (ls : List SourceLine). layout_from (index + 1) (record { place = place; labels = p.sofar }) ls ≡ Ok plan) cut p.left) in
    let one : LineLaid (record { place = place; labels = p.sofar }) here.mid line = line_laid _ line here.mid here.first in
    let sized : Ok one.size ≡ Ok (code_size a.code) = sym one.sized ∙ statement_len plan.labels place line.statement a.code a.found in
    let same : one.size ≡ code_size a.code = cc in
    let len : length a.bytes ≡ code_size a.code = code_bytes a.code a.bytes a.spelled in
    let grown : length new ≡ length out + length a.bytes = ap length a.behind ∙ length-append out a.bytes in
    let at : here.mid.place ≡ base + length new = omega (arith, one.place, same, len, grown) in
    let ends : place + code_size a.code ≡ base + length new = omega (arith, len, grown) in
    record {
      sofar = here.mid.labels;
      left = subst (λ (n : ℕ). layout_from (index + 1 + 1) (record { place = n; labels = here.mid.labels }) (drop (index + 1) lines) ≡ Ok plan) at here.others;
      low = omega (arith, at, one.low);
      checked =
          p.checked ∙ ap (λ (ls : List SourceLine). end_from plan.labels (index + 1) place ls) cut
          ∙ ap (λ (r : Result Code AsmKind). next fault_at (index + 1) (mapped (λ code. place + code_size code) r) (λ t. end_from plan.labels (index + 1 + 1) t (drop (index + 1) lines))) a.found
          ∙ ap (λ (n : ℕ). end_from plan.labels (index + 1 + 1) n (drop (index + 1) lines)) ends;
      placed = λ later rest q.
          let r : ArePlaced plan.labels (place + length a.bytes) (drop (index + 1) lines) later rest =
          subst (λ (n : ℕ). ArePlaced plan.labels n (drop (index + 1) lines) later rest) (omega (arith, grown)) q in
          let w : ArePlaced plan.labels place (line ∷ drop (index + 1) lines) (labels_at place line.labels ++ later) (a.bytes ++ rest) =
          (a.code, a.bytes, later, rest, a.found, a.spelled, refl, refl, r) in
          let v : ArePlaced plan.labels base lines (p.sofar ++ (labels_at place line.labels ++ later)) (out ++ (a.bytes ++ rest)) =
          p.placed (labels_at place line.labels ++ later) (a.bytes ++ rest) (subst (λ (ls : List SourceLine). ArePlaced plan.labels place ls (labels_at place line.labels ++ later) (a.bytes ++ rest)) (sym cut) w) in
          let names : p.sofar ++ (labels_at place line.labels ++ later) ≡ here.mid.labels ++ later =
          sym (append_assoc p.sofar (labels_at place line.labels) later) ∙ ap (λ (ls : List Label). ls ++ later) (sym (names_behind place p.sofar line.labels here.mid.labels one.added)) in
          let bytes : out ++ (a.bytes ++ rest) ≡ new ++ rest = sym (append_assoc out a.bytes rest) ∙ ap (λ (b : List ℕ). b ++ rest) (sym a.behind) in
          subst (λ (b : List ℕ). ArePlaced plan.labels base lines (here.mid.labels ++ later) b) bytes (subst (λ (ls : List Label). ArePlaced plan.labels base lines ls (out ++ (a.bytes ++ rest))) names v);
    }

-- the whole source
pub record Finished (lines : List SourceLine) (plan : Layout) (out : List ℕ) : Type 0 where
  pub placed : ArePlaced plan.labels base lines plan.labels out
  pub checked : end_from plan.labels 1 base lines ≡ Ok (base + length out)
  pub low : length out ≤ 1048576

pub finish : (lines : List SourceLine) (plan : Layout) (index : ℕ) (out : List ℕ) → drop index lines ≡ [] → Progress lines plan index out → Finished lines plan out
finish lines plan index out none p =
    let end : layout_from (index + 1) (record { place = base + length out; labels = p.sofar }) [] ≡ Ok plan =
    subst (λ (ls : List SourceLine). layout_from (index + 1) (record { place = base + length out; labels = p.sofar }) ls ≡ Ok plan) none p.left in
    let same : record { place = base + length out; labels = p.sofar } ≡ plan = cc in
    let nothing : ArePlaced plan.labels (base + length out) (drop index lines) [] [] =
    subst (λ (ls : List SourceLine). ArePlaced plan.labels (base + length out) ls [] []) (sym none) (refl, refl) in
    record {
      placed =
          subst (λ (b : List ℕ). ArePlaced plan.labels base lines plan.labels b) (append-nil out)
          (subst (λ (ls : List Label). ArePlaced plan.labels base lines ls (out ++ [])) (append-nil p.sofar ∙ ap (λ (l : Layout). l.labels) same) (p.placed [] [] nothing));
      checked = p.checked ∙ ap (λ (ls : List SourceLine). end_from plan.labels (index + 1) (base + length out) ls) none;
      low = omega (arith, p.low);
    }

-- the same, for a line, a number of bytes and labels that are known by equations
pub forward_by : (lines : List SourceLine) (plan : Layout) (index : ℕ) (out new : List ℕ) (line : SourceLine) (n : ℕ) (known : List Label)
    → index < length lines → Progress lines plan index out → line ≡ get_or lines index line → n ≡ length out → known ≡ plan.labels
    → AppendsCode out new (statement_code known (base + n) line.statement) → Progress lines plan (index + 1) new
forward_by lines plan index out new line n known h p l e k a =
    forward lines plan index out new line h p
    (subst (λ (x : SourceLine). AppendsCode out new (statement_code plan.labels (base + length out) x.statement)) l
    (subst (λ (m : ℕ). AppendsCode out new (statement_code plan.labels (base + m) line.statement)) e
    (subst (λ (ls : List Label). AppendsCode out new (statement_code ls (base + n) line.statement)) k a)))

-- a source that is laid out is placed, and its names are apart
pub agrees : (lines : List SourceLine) (plan : Layout) (labels : List Label) (out : List ℕ) → layout lines ≡ Ok plan → ArePlaced plan.labels base lines plan.labels out
    → labels ≡ plan.labels → Agrees lines labels out
agrees lines plan labels out h p e =
    subst (λ (ls : List Label). Agrees lines ls out) (sym e)
    (record { placed = p; apart = (kept 1 (record { place = base; labels = [] }) lines plan h).apart tt })
