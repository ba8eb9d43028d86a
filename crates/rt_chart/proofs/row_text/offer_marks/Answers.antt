use Rattle.rt_chart.proofs.Common.{length, refl, ap, ◌∙◌, arith, take_all, Offers-nil, Offers-then}
use Rattle.rt_chart.proofs.row_text.offer_marks.Goals as goal

pub pages-init : goal.pages-init
pages-init g c = record {
  within = omega arith;
  empty = c.new-page.ensures;
  task = refl;
  same = refl;
  bound = omega arith;
  offered = Offers-nil g.S.Sink.seen c.args.out.now.written c.args.out.now.sink.now;
}

pub pages-preserved : goal.pages-preserved
pages-preserved g c =
    let seen = g.S.Sink.seen in
    let before = c.pages.invariant in
    let filled = c.fill_marks-next.ensures in
    let long = ap length c.text.ensures in
    let offered = rw c.text.ensures at c.put.ensures.offers in
    let text = rw before.task at filled.text in
    record {
      within = filled.within;
      empty = c.clear.ensures;
      task = filled.task ∙ before.task;
      same = c.put.ensures.same ∙ before.same;
      bound = omega (arith, c.put.ensures.bound, long, filled.short, before.bound);
      offered = rw text (Offers-then seen _ _ _ _ _ _ _ _ before.offered offered);
    }

pub returns-clause-offers : goal.returns-clause-offers
returns-clause-offers g c =
    let all = take_all c.pages.next c.args.marks.now (omega arith) in
    rw all at c.pages.invariant.offered
