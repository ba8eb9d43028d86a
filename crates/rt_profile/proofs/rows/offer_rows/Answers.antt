use Rattle.rt_profile.proofs.Common.{◌≡◌, ◌+◌, List, ℕ, [], ◌∷◌, ◌++◌, Some, None, true, length, length-append, sym, ap, subst, ◌∙◌, arith, part, begins, PartRow, row_text, kept_row, kept_lines}
use Rattle.rt_profile.proofs.TextLemmas.{lines_of, lines-more}
use Rattle.rt_profile.proofs.rows.offer_rows.Goals as goal

pub rows-init : goal.rows-init
rows-init g c = record {
  told = ([], g.met.O.Out.nothing _, omega (arith, c.walk-walk.ensures.few), ap (lines_of c.args.number c.args.task.now None) c.walk-walk.ensures.all);
}

pub rows-preserved-then-begins : goal.rows-preserved-then-begins
rows-preserved-then-begins g c =
    let x = c.args.task.now in
    let i = c.args.number in
    let a = c.in-Some.address in
    let bs = c.next.new.self in
    let before = c.rows.before in
    let value = c.part_at-part.ensures.value in
    let is : c.rows.walk ≡ a ∷ bs = c.in-Some.ensures in
    let size : length c.rows.walk ≡ length bs + 1 = omega (arith, ap (λ (xs : List ℕ). length xs) is) in
    let first : begins before (part x.labels a) ≡ true = sym (ap (begins before) value) ∙ sym c.begins.ensures ∙ c.if-begins.true in
    let told = c.rows.invariant.told in
    let all = ap (λ (cs : List ℕ). told.0 ++ lines_of i x before cs) (sym is) ∙ told.3 in
    let line = row_text (kept_row i x a) in
    let row = subst (λ (r : PartRow). g.O.Out.offers c.rows.out (row_text r) c.offer_row.new.out) c.row_of.ensures.row c.offer_row.ensures.offers in
    record {
      told = (
        told.0 ++ line,
        g.met.O.Out.joined _ _ _ _ _ told.1 row,
        omega (arith, size, length-append told.0 line, told.2, c.offer_row.ensures.short, ap (λ (r : PartRow). length (row_text r)) c.row_of.ensures.row),
        ap (λ (k : ℕ). (told.0 ++ line) ++ lines_of i x (Some k) bs) value ∙ lines-more i x before a bs told.0 (kept_lines i x) first all,
      );
    }
