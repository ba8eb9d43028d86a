use Rattle.rt_trace.proofs.Common.{◌≡◌, ◌<◌, List, ℕ, length, inl, refl, sym, ap, subst, ◌∙◌, arith, true, legal, state_at, history_text}
use Rattle.rt_sink.specs.Offers.{Offers}
use Rattle.rt_sink.proofs.Parts.{Offers-nil, Offers-then, Offers-failed}
use Rattle.rt_history.specs.Working.EndsBusy.{EndsBusy}
use Rattle.rt_trace.proofs.EntryLemmas.{text-begins}
use Rattle.rt_trace.proofs.run.offer_history.Goals as goal

pub pages-init : goal.pages-init
unfolding legal
pages-init g c =
    let seen = g.S.Sink.seen in
    let k = c.args.writer.now.written in
    let a = c.args.writer.now.sink.now in
    let at : 0 ≡ c.args.machine.now.tick = sym c.requires.start in
    record {
      within = omega arith;
      same = refl;
      empty = c.new-page.ensures;
      short = omega arith;
      at = rw c.requires.start c.requires.at;
      heard = λ set start heard. rw c.requires.start heard;
      told = λ set start. (
        subst (λ (t : ℕ). c.args.machine.now ≡ state_at set t) at start,
        subst (λ (t : ℕ). Offers seen k a (history_text (legal set t)) k a) at (Offers-nil seen k a),
        λ _. inl (subst (λ (t : ℕ). EndsBusy (legal set t)) at tt),
      );
    }

pub pages-preserved : goal.pages-preserved
pages-preserved g c =
    let seen = g.S.Sink.seen in
    let before = c.pages.invariant in
    let t = c.pages.machine.tick in
    let less : t < c.args.n = omega arith in
    let page = c.fill_page.new.page.text in
    let lines : c.text.result.now ≡ page = c.text.ensures in
    let length_is : length c.text.result.now ≡ length page = ap length lines in
    let offered = subst (λ (x : List ℕ). Offers seen c.pages.writer.written c.pages.writer.sink.now x c.put.new.self.written c.put.new.self.sink.now) lines c.put.ensures.offers in
    record {
      within = c.fill_page.ensures.within;
      same = c.put.ensures.same ∙ before.same;
      empty = c.clear.ensures;
      short = omega (arith, c.put.ensures.bound, length_is, before.short, c.fill_page.ensures.short);
      at = c.fill_page.ensures.at;
      heard = λ set start heard. c.fill_page.ensures.heard c.args.hearer.now set (before.told set start).0 (before.heard set start heard);
      told = λ set start.
          let so_far = before.told set start in
          let on = c.fill_page.ensures.told set so_far.0 (so_far.2 less) in
          (on.stands, rw on.text (Offers-then seen _ _ _ _ _ _ _ _ so_far.1 offered), on.cut);
    }

pub returns-else-not-has_failed-clause-offers : goal.returns-else-not-has_failed-clause-offers
returns-else-not-has_failed-clause-offers g c = λ set start.
    let seen = g.S.Sink.seen in
    let before = c.pages.invariant in
    let so_far = before.told set start in
    let from = text-begins set c.pages.machine.tick c.args.n before.within so_far.2 in
    let shut : (seen c.pages.writer.sink.now).failed ≡ true = sym c.has_failed.ensures ∙ c.if-not-has_failed.false in
    rw from.1 (Offers-failed seen _ _ _ from.0 _ _ shut so_far.1)
