use Rattle.rt_effects.proofs.Common.{◌≡◌, ◌<◌, List, ℕ, length, refl, sym, ap, subst, ◌∙◌, arith, true}
use Rattle.rt_sink.specs.Offers.{Offers}
use Rattle.rt_sink.proofs.Parts.{Offers-nil, Offers-then, Offers-failed}
use Rattle.rt_effects.proofs.WindowLemmas.{cut-first, text-first, text-begins}
use Rattle.rt_effects.proofs.window.offer_ticks.Goals as goal

pub pages-init : goal.pages-init
pages-init g c =
    let seen = g.S.Sink.seen in
    let from = c.args.machine.now.tick in
    let a = c.args.writer.now.sink.now in
    record {
      within = c.requires.before;
      later = omega arith;
      same = refl;
      words = refl;
      empty = c.new-page.ensures;
      bound = omega (arith, c.requires.start);
      count = c.requires.count;
      told = λ set words start. (
        start,
        λ _. cut-first set from,
        rw (c.requires.start, text-first set c.args.asked from) (Offers-nil seen 0 a),
      );
    }

pub pages-preserved : goal.pages-preserved
pages-preserved g c =
    let seen = g.S.Sink.seen in
    let before = c.pages.invariant in
    let from = c.args.machine.now.tick in
    let t = c.pages.machine.tick in
    let less : t < c.args.n = omega (arith, c.now.ensures.value) in
    let filled = c.fill_page.ensures in
    let page = c.fill_page.new.page in
    let lines : c.text.result.now ≡ page = c.text.ensures in
    let length_is : length c.text.result.now ≡ length page = ap length lines in
    let offered = subst (λ (x : List ℕ). Offers seen c.pages.writer.written c.pages.writer.sink.now x c.put.new.self.written c.put.new.self.sink.now) lines c.put.ensures.offers in
    record {
      within = filled.within;
      later = omega (arith, before.later, filled.onward);
      same = c.put.ensures.same ∙ before.same;
      words = filled.words ∙ before.words;
      empty = c.clear.ensures;
      bound = omega (arith, c.put.ensures.bound, length_is, before.bound, filled.short);
      count = ap length filled.words ∙ before.count ∙ sym filled.count;
      told = λ set words start.
          let so_far = before.told set words start in
          let on = filled.told set from (before.words ∙ words) before.later so_far.0 (so_far.1 less) in
          (on.stands, on.cut, rw on.text (Offers-then seen _ _ _ _ _ _ _ _ so_far.2 offered));
    }

pub returns-else-not-has_failed-clause-offers : goal.returns-else-not-has_failed-clause-offers
returns-else-not-has_failed-clause-offers g c = λ set words start.
    let seen = g.S.Sink.seen in
    let before = c.pages.invariant in
    let so_far = before.told set words start in
    let rest = text-begins set c.args.asked c.args.machine.now.tick c.pages.machine.tick c.args.n before.later before.within so_far.1 in
    let shut : (seen c.pages.writer.sink.now).failed ≡ true = sym c.has_failed.ensures ∙ c.if-not-has_failed.false in
    rw rest.1 (Offers-failed seen _ _ _ rest.0 _ _ shut so_far.2)
