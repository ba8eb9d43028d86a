use Rattle.rt_asm.proofs.Common.{◌≡◌, ℕ, ◌+◌, ◌<◌, Bool, true, false, refl, ap, List, ◌∷◌, length, get_or, drop, add-one, arith, sym, ◌∙◌, Some, bytes_eq, Slice, SourceLine}
use Rattle.std.proofs.Common.{drop-cons, cond}
use Rattle.std.specs.List.{list_any}
use Rattle.rt_asm.specs.DefiningLine.{defining_line}
use Rattle.rt_asm.proofs.flaws.defining_line.Goals as goal

-- the line at the front of those that are left
left_from : (lines : List SourceLine) (i : ℕ) (l : SourceLine) → i < length lines → l ≡ get_or lines i l → drop i lines ≡ l ∷ drop (i + 1) lines
left_from lines i l h is = rw (add-one, drop-cons lines i l) (rw (← is) refl)

one_line : (n : ℕ) (rest ls : List SourceLine) (l : SourceLine) (name : List ℕ) (b : Bool) → rest ≡ l ∷ ls → b ≡ list_any (λ s. bytes_eq s.text name) l.labels
    → defining_line n rest name ≡ cond b (Some n) (defining_line (n + 1) ls name)
one_line n rest ls l name b is found = rw (is, found) refl

found_in : (b : Bool) (labels read : List Slice) (name : List ℕ) (r : Bool) → r ≡ b → r ≡ list_any (λ s. bytes_eq s.text name) read → read ≡ labels → b ≡ list_any (λ s. bytes_eq s.text name) labels
found_in b labels read name r is answers same = sym is ∙ answers ∙ ap (λ (ls : List Slice). list_any (λ s. bytes_eq s.text name) ls) same

pub returns-then-defines : goal.returns-then-defines
returns-then-defines c =
    let i = c.loop-line.line-index in
    let lines = c.args.lines.now in
    sym (c.loop-line.invariant.same
    ∙ one_line c.loop-line.number (drop i lines) (drop (i + 1) lines) c.line-item.result c.args.name.now true
    (left_from lines i c.line-item.result c.loop-line-test.true c.line-item.is)
    (found_in true c.line-item.result.labels c.labels.result.now c.args.name.now c.defines.result c.if-defines.true c.defines.ensures c.labels.ensures.value))

pub loop-line-preserved : goal.loop-line-preserved
loop-line-preserved c =
    let i = c.loop-line.line-index in
    let lines = c.args.lines.now in
    record {
      counted = omega arith;
      same =
          c.loop-line.invariant.same
          ∙ one_line c.loop-line.number (drop i lines) (drop (i + 1) lines) c.line-item.result c.args.name.now false
          (left_from lines i c.line-item.result c.loop-line-test.true c.line-item.is)
          (found_in false c.line-item.result.labels c.labels.result.now c.args.name.now c.defines.result c.if-defines.false c.defines.ensures c.labels.ensures.value);
    }
