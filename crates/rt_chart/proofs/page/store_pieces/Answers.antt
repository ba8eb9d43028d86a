use Rattle.rt_chart.proofs.Common.{◌≡◌, ℕ, List, ◌+◌, ◌-◌, ◌≤◌, ◌++◌, length, take, drop, length-take-le, take-take, append_assoc, ap, sym, ◌∙◌, arith, take_all}
use Rattle.std.proofs.Common.{take-add}
use Rattle.rt_chart.proofs.PageLemmas.{take-stored}
use Rattle.rt_chart.proofs.page.store_pieces.Goals as goal

pub pieces-preserved : goal.pieces-preserved
pieces-preserved g c =
    let before = c.pieces.invariant in
    let n = c.pieces.done in
    let size = g.row.N in
    let text = c.args.text.now in
    let at = c.args.at in
    let old = c.args.bytes.now in
    let rest = take (length text - n) (drop n text) in
    let whole : size ≤ length text - n = omega (arith, c.pieces-test.true) in
    let place : at + (n + size) ≡ (at + n) + size = omega arith in
    let piece : take size rest ≡ take size (drop n text) = take-take size (length text - n) (drop n text) whole in
    record {
      within = omega (arith, c.pieces-test.true);
      same = c.store_front.ensures.same ∙ before.same;
      text = ap (λ (k : ℕ). take k c.store_front.new.bytes) place ∙ c.store_front.ensures.text size (omega arith)
          ∙ ap (λ (x : List ℕ). x ++ take size rest) before.text ∙ append_assoc (take at old) (take n text) (take size rest)
          ∙ ap (λ (x : List ℕ). take at old ++ (take n text ++ x)) piece ∙ ap (λ (x : List ℕ). take at old ++ x) (sym (take-add n size text));
    }

pub returns-clause-text : goal.returns-clause-text
returns-clause-text g c =
    let before = c.pieces.invariant in
    let n = c.pieces.done in
    let size = g.row.N in
    let text = c.args.text.now in
    let at = c.args.at in
    let old = c.args.bytes.now in
    let last = length text - size in
    let front = take n text in
    let long : length front ≡ n = length-take-le n text before.within in
    let kept : take (at + length front) c.pieces.bytes ≡ take at old ++ front = ap (λ (k : ℕ). take (at + k) c.pieces.bytes) long ∙ before.text in
    let begun : take (at + last) c.pieces.bytes ≡ take at old ++ take last text =
    take-stored at last old front c.pieces.bytes (omega (arith, c.requires.room)) (omega (arith, long, c.pieces-test.false)) kept
    ∙ ap (λ (x : List ℕ). take at old ++ x) (take-take last n text (omega (arith, c.pieces-test.false))) in
    let place : at + length text ≡ (at + last) + size = omega (arith, c.requires.long) in
    let rest = take (length text - last) (drop last text) in
    let piece : take size rest ≡ take size (drop last text) = take-take size (length text - last) (drop last text) (omega (arith, c.requires.long)) in
    let count : length text ≤ last + size = omega (arith, c.requires.long) in
    let all : take last text ++ take size (drop last text) ≡ text = sym (take-add last size text) ∙ take_all (last + size) text count in
    ap (λ (k : ℕ). take k c.store_front-2.new.bytes) place ∙ c.store_front-2.ensures.text size (omega arith)
    ∙ ap (λ (x : List ℕ). x ++ take size rest) begun ∙ append_assoc (take at old) (take last text) (take size rest)
    ∙ ap (λ (x : List ℕ). take at old ++ (take last text ++ x)) piece ∙ ap (λ (x : List ℕ). take at old ++ x) all
