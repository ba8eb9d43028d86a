use Rattle.std.proofs.Common.{ℕ, List, take, length, length-append, sym, ap, subst, ◌∙◌, arith}
use Rattle.rt_text_out.specs.Lines.{lines}
use Rattle.rt_text_out.proofs.LineLemmas.{lines-more}
use Rattle.rt_text_out.proofs.each.EachText.offer.Goals as goal

pub loop-number-preserved : goal.loop-number-preserved
loop-number-preserved g c =
    let f = g.L.Line.line c.args.self.now.by in
    let n = c.loop-number.number in
    let xs = c.args.self.now.items.now in
    let so_far = lines f 0 (take n xs) in
    let more = lines-more f n xs c.shown-item.result c.loop-number-test.true c.shown-item.is in
    record {
      offered = subst (λ (t : List ℕ). g.O.Out.offers c.args.out.now t c.offer_line.new.out) (sym more) (g.met.O.Out.joined _ _ _ _ _ c.loop-number.invariant.offered c.offer_line.ensures.offers);
      short = omega (arith, ap length more ∙ length-append so_far (f n c.shown-item.result), c.loop-number.invariant.short, c.offer_line.ensures.short);
    }
