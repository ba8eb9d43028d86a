-- The statements that are kept of lines, and their bytes.
use Rattle.rt_asm.proofs.Common.{◌≡◌, ℕ, ◌+◌, List, [], ◌∷◌, ◌++◌, length, Option, Some, None, Result, Ok, Err, refl, sym, ap, subst, ◌∙◌, append_assoc, arith, append-nil, option_map, Label, SourceLine, SourceStatement, Meaning, base, ◌>>=◌, mapped, next, Code, Data, code_of, code_size, statement_code, IsCode, labels_at, Layout, layout_from, fault_at, ArePlaced, statement_size, end_from, KeptStatement, AsmKind}
use Rattle.rt_asm.specs.Working.Kept.{kept_of, kept_from, place_behind, kept_end, HaveBytes}
use Rattle.rt_asm.proofs.LayoutLemmas.{names_behind, LineLaid, line_laid, Laid, laid}
use Rattle.rt_asm.proofs.SizeLemmas.{code_len, code_bytes}

-- ---- what is kept of lines

abbrev meant : SourceLine → Option Meaning
meant line = option_map (λ s. s.meaning) line.statement

-- what is kept of one line more
pub kept_push : (n : ℕ) (lines : List SourceLine) (line : SourceLine) → kept_from n (lines ++ line ∷ []) ≡ kept_from n lines ++ kept_of (n + length lines) (meant line)
kept_push n [] line = append-nil (kept_of n (meant line)) ∙ ap (λ (k : ℕ). kept_of k (meant line)) (omega arith)
kept_push n (l ∷ ls) line =
    ap (λ (ks : List KeptStatement). kept_of n (meant l) ++ ks) (kept_push (n + 1) ls line)
    ∙ sym (append_assoc (kept_of n (meant l)) (kept_from (n + 1) ls) (kept_of (n + 1 + length ls) (meant line)))
    ∙ ap (λ (k : ℕ). (kept_of n (meant l) ++ kept_from (n + 1) ls) ++ kept_of k (meant line)) (omega arith)

-- where the statements of lines end is where the lines end
pub kept_place : (n : ℕ) (before : Layout) (lines : List SourceLine) (plan : Layout) → layout_from n before lines ≡ Ok plan
    → place_behind before.place (kept_from n lines) ≡ Ok plan.place
kept_place n before [] plan h = let e : before ≡ plan = cc in ap (λ (l : Layout). Ok l.place) e
kept_place n before (line ∷ lines) plan h =
    let here : Laid n before line lines plan = laid n before line lines plan h in
    let one : LineLaid before here.mid line = line_laid before line here.mid here.first in
    by line.statement here.mid.place one.size one.sized one.place (kept_place (n + 1) here.mid lines plan here.others)
  where
    by : (s : Option SourceStatement) (end size : ℕ) → statement_size before.place s ≡ Ok size → end ≡ before.place + size
        → place_behind end (kept_from (n + 1) lines) ≡ Ok plan.place
        → place_behind before.place (kept_of n (option_map (λ s. s.meaning) s) ++ kept_from (n + 1) lines) ≡ Ok plan.place
    by None end size sized at rest =
        let none : 0 ≡ size = cc in ap (λ (p : ℕ). place_behind p (kept_from (n + 1) lines)) (omega (arith, none, at)) ∙ rest
    by (Some s) end size sized at rest =
        ap (λ (r : Result ℕ AsmKind). r >>= (λ z. place_behind (before.place + z) (kept_from (n + 1) lines))) sized
        ∙ ap (λ (p : ℕ). place_behind p (kept_from (n + 1) lines)) (sym at) ∙ rest

-- the end of the statements of lines, or their first fault, is that of the lines
pub kept_ends : (labels : List Label) (n place : ℕ) (lines : List SourceLine) → kept_end labels place (kept_from n lines) ≡ end_from labels n place lines
kept_ends labels n place [] = refl
kept_ends labels n place (line ∷ lines) = by line.statement (λ p. kept_ends labels (n + 1) p lines)
  where
    each : (r : Result Code AsmKind) → ((p : ℕ) → kept_end labels p (kept_from (n + 1) lines) ≡ end_from labels (n + 1) p lines)
        → next fault_at n (mapped (λ code. place + code_size code) r) (λ end. kept_end labels end (kept_from (n + 1) lines))
        ≡ next fault_at n (mapped (λ code. place + code_size code) r) (λ end. end_from labels (n + 1) end lines)
    each (Ok code) more = more (place + code_size code)
    each (Err kind) more = refl

    by : (s : Option SourceStatement) → ((p : ℕ) → kept_end labels p (kept_from (n + 1) lines) ≡ end_from labels (n + 1) p lines)
        → kept_end labels place (kept_of n (option_map (λ s. s.meaning) s) ++ kept_from (n + 1) lines)
        ≡ next fault_at n (mapped (λ code. place + code_size code) (statement_code labels place s)) (λ end. end_from labels (n + 1) end lines)
    by None more = ap (λ (p : ℕ). kept_end labels p (kept_from (n + 1) lines)) (omega arith) ∙ more (place + 0)
    by (Some s) more = each (code_of labels place s.meaning) more

-- lines that are laid out are placed by the bytes of their statements
pub record Placed (known : List Label) (before : Layout) (lines : List SourceLine) (plan : Layout) (bytes : List ℕ) : Type 0 where
  pub later : List Label
  pub names : plan.labels ≡ before.labels ++ later
  pub placed : ArePlaced known before.place lines later bytes

-- a line, and those behind it
placed_more : (known : List Label) (n : ℕ) (before mid : Layout) (line : SourceLine) (lines : List SourceLine) (plan : Layout) (bytes : List ℕ) → LineLaid before mid line
    → ((rest : List ℕ) → HaveBytes known mid.place (kept_from (n + 1) lines) rest → Placed known mid lines plan rest)
    → (s : Option SourceStatement) → line.statement ≡ s → HaveBytes known before.place (kept_of n (option_map (λ s. s.meaning) s) ++ kept_from (n + 1) lines) bytes
    → Placed known before (line ∷ lines) plan bytes
placed_more known n before mid line lines plan bytes one more s is b = by s is b
  where
    behind : (code : Code) (first rest : List ℕ) → statement_code known before.place line.statement ≡ Ok code → IsCode code first → bytes ≡ first ++ rest
        → mid.place ≡ before.place + length first → HaveBytes known mid.place (kept_from (n + 1) lines) rest → Placed known before (line ∷ lines) plan bytes
    behind code first rest found spelled split at others =
        let p : Placed known mid lines plan rest = more rest others in
        record {
          later = labels_at before.place line.labels ++ p.later;
          names =
              p.names ∙ ap (λ (ls : List Label). ls ++ p.later) (names_behind before.place before.labels line.labels mid.labels one.added)
              ∙ append_assoc before.labels (labels_at before.place line.labels) p.later;
          placed = (code, first, p.later, rest, found, spelled, refl, split, subst (λ (k : ℕ). ArePlaced known k lines p.later rest) at p.placed);
        }

    by : (s : Option SourceStatement) → line.statement ≡ s → HaveBytes known before.place (kept_of n (option_map (λ s. s.meaning) s) ++ kept_from (n + 1) lines) bytes
        → Placed known before (line ∷ lines) plan bytes
    by None e q =
        let none : Ok 0 ≡ Ok one.size = sym (ap (statement_size before.place) e) ∙ one.sized in
        let empty : 0 ≡ one.size = cc in
        let at : mid.place ≡ before.place + 0 = omega (arith, one.place, empty) in
        behind (Data []) [] bytes (ap (statement_code known before.place) e) refl refl at
        (subst (λ (k : ℕ). HaveBytes known k (kept_from (n + 1) lines) bytes) (omega (arith, at)) q)
    by (Some s) e q =
        let sizes : Ok one.size ≡ Ok (code_size q.0) = sym one.sized ∙ ap (statement_size before.place) e ∙ code_len known before.place s.meaning q.0 q.3 in
        let same : one.size ≡ code_size q.0 = cc in
        let at : mid.place ≡ before.place + length q.1 = omega (arith, one.place, same, code_bytes q.0 q.1 q.4) in
        behind q.0 q.1 q.2 (ap (statement_code known before.place) e ∙ q.3) q.4 q.5 at
        (subst (λ (k : ℕ). HaveBytes known k (kept_from (n + 1) lines) q.2) (sym at) q.6)

pub kept_placed : (known : List Label) (n : ℕ) (before : Layout) (lines : List SourceLine) (plan : Layout) (bytes : List ℕ) → layout_from n before lines ≡ Ok plan
    → HaveBytes known before.place (kept_from n lines) bytes → Placed known before lines plan bytes
kept_placed known n before [] plan bytes h b =
    let e : before ≡ plan = cc in
    record { later = []; names = ap (λ (l : Layout). l.labels) (sym e) ∙ sym (append-nil before.labels); placed = (refl, b) }
kept_placed known n before (line ∷ lines) plan bytes h b =
    let here : Laid n before line lines plan = laid n before line lines plan h in
    placed_more known n before here.mid line lines plan bytes (line_laid before line here.mid here.first)
    (λ rest q. kept_placed known (n + 1) here.mid lines plan rest here.others q) line.statement refl b

-- ---- their bytes

-- statements with their bytes, up to the end of the image
pub record Ended (labels : List Label) (end : ℕ) (kept : List KeptStatement) (out : List ℕ) : Type 0 where
  pub bytes : HaveBytes labels base kept out
  pub checked : kept_end labels base kept ≡ Ok (base + length out)
  pub size : base + length out ≡ end
