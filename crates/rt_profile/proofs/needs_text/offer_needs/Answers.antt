use Rattle.rt_profile.proofs.Common.{◌≡◌, ℕ, ◌+◌, ◌<◌, ◌≤◌, List, [], ◌++◌, length, length-append, get_or, refl, ap, ◌∙◌, arith, tick_limit, need_text, kept_need, kept_need_lines}
use Rattle.rt_profile.proofs.NeedTextLemmas.{lines-some, lines-none}
use Rattle.rt_profile.proofs.needs_text.offer_needs.Goals as goal
use Rattle.rt_profile.proofs.needs_text.offer_needs.Goals.{then-jobs-gt0, else-jobs-gt0}

pub loop-bracket-init : goal.loop-bracket-init
loop-bracket-init g c = record { sum = omega arith; told = ([], g.met.O.Out.nothing _, omega arith, refl) }

pub loop-bracket-preserved : goal.loop-bracket-preserved
loop-bracket-preserved g c =
    let i = c.args.number in
    let b = c.loop-bracket.bracket in
    let m = c.loop-bracket.within in
    let ns = c.args.needs.now.counts in
    let n = get_or ns b 0 in
    let value : c.counts-jobs-items.result.now ≡ ns = c.counts-jobs-items.ensures.value in
    let below : b < length ns = omega (arith, c.loop-bracket-test.true, ap (λ (xs : List ℕ). length xs) value) in
    let here : get_or c.counts-jobs-items.result.now b 0 ≡ n = ap (λ (xs : List ℕ). get_or xs b 0) value in
    let few : n ≤ tick_limit = c.requires b 0 below in
    let told = c.loop-bracket.invariant.told in
    elim c.if-jobs-gt0.branch [
      | then-jobs-gt0 w ↦
          let some : 0 < n = omega (arith, here, w.if-jobs-gt0.true) in
          let sum : c.if-jobs-gt0.within ≡ m + n = omega (arith, w.within-is, here) in
          let row = rw (w.row_of.ensures, here) at w.offer.ensures.offers in
          let size = rw (w.row_of.ensures, here) at w.offer.ensures.short in
          let line = need_text (kept_need i b n (m + n)) in
          rw (w.out-is, sum)
          (record {
            sum = omega (arith, few, c.loop-bracket.invariant.sum);
            told = (
              told.0 ++ line,
              g.met.O.Out.joined _ _ _ _ _ told.1 row,
              omega (arith, length-append told.0 line, told.2, size),
              lines-some i b m ns told.0 (kept_need_lines i c.args.needs.now) below some told.3,
            );
          })
      | else-jobs-gt0 w ↦
          let none : n ≡ 0 = omega (arith, here, w.if-jobs-gt0.false) in
          rw (w.out-is, w.within-is)
          (record {
            sum = omega (arith, c.loop-bracket.invariant.sum);
            told = (told.0, told.1, omega (arith, told.2), lines-none i b m ns told.0 (kept_need_lines i c.args.needs.now) below none told.3);
          })
    ]
