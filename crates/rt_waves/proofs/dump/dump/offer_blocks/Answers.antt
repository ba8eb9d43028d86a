use Rattle.rt_waves.proofs.Common.{◌≡◌, ◌-◌, ℕ, List, length, true, refl, sym, ap, subst, ◌∙◌, arith, flat_map, range_with_len, state_at, Offers, waves_at, told_block}
use Rattle.rt_sink.proofs.Parts.{Offers-nil, Offers-then, Offers-failed}
use Rattle.rt_waves.proofs.dump.DumpLemmas.{more-text}
use Rattle.rt_waves.proofs.dump.dump.offer_blocks.Goals as goal

pub pages-init : goal.pages-init
pages-init g c =
    let seen = g.S.Sink.seen in
    let k = c.args.writer.now.written in
    let a = c.args.writer.now.sink.now in
    let at : 0 ≡ c.args.machine.now.tick = sym c.requires.start in
    record {
      within = omega (arith, c.requires.start);
      together = c.requires.together ∙ at;
      count = c.requires.count;
      same = refl;
      empty = c.new-page.ensures;
      bound = omega (arith, c.requires.room);
      told = λ set from start stands. (
        subst (λ (t : ℕ). c.args.machine.now ≡ state_at set t) at start,
        subst (λ (t : ℕ). c.args.waves.now ≡ waves_at set from t) at stands,
        subst (λ (t : ℕ). Offers seen k a (flat_map (told_block set from) (range_with_len 0 t)) k a) at (Offers-nil seen k a),
      );
    }

pub pages-preserved : goal.pages-preserved
pages-preserved g c =
    let seen = g.S.Sink.seen in
    let before = c.pages.invariant in
    let t = c.pages.machine.tick in
    let filled = c.fill_page.ensures in
    let u = c.fill_page.new.machine.tick in
    let page = c.fill_page.new.page in
    let on = filled.onward in
    let lines : c.text.result.now ≡ page = c.text.ensures in
    let length_is : length c.text.result.now ≡ length page = ap length lines in
    record {
      within = omega (arith, filled.within, c.min-until.ensures);
      together = filled.together;
      count = filled.counts;
      same = c.put.ensures.same ∙ before.same;
      empty = c.clear.ensures;
      bound = omega (arith, c.put.ensures.bound, length_is, before.bound, filled.short);
      told = λ set from start stands.
          let so_far = before.told set from start stands in
          let done = filled.told set from so_far.0 so_far.1 in
          let text = more-text set from t u (u - t) (omega (arith, on)) in
          let offered = subst (λ (x : List ℕ). Offers seen c.pages.writer.written c.pages.writer.sink.now x c.put.new.self.written c.put.new.self.sink.now) (lines ∙ done.text) c.put.ensures.offers in (
            done.stands,
            done.told,
            subst (λ (xs : List ℕ). Offers seen c.args.writer.now.written c.args.writer.now.sink.now xs c.put.new.self.written c.put.new.self.sink.now) text
                (Offers-then seen _ _ _ _ _ _ _ _ so_far.2 offered),
          );
    }

pub returns-else-not-has_failed-clause-offers : goal.returns-else-not-has_failed-clause-offers
returns-else-not-has_failed-clause-offers g c = λ set from start stands.
    let seen = g.S.Sink.seen in
    let so_far = c.pages.invariant.told set from start stands in
    let t = c.pages.machine.tick in
    let shut : (seen c.pages.writer.sink.now).failed ≡ true = sym c.has_failed.ensures ∙ c.if-not-has_failed.false in
    let within = c.pages.invariant.within in
    let text = more-text set from t c.args.end (c.args.end - t) (omega (arith, within)) in
    subst (λ (xs : List ℕ). Offers seen c.args.writer.now.written c.args.writer.now.sink.now xs c.pages.writer.written c.pages.writer.sink.now) text
    (Offers-failed seen _ _ _ (flat_map (told_block set from) (range_with_len t (c.args.end - t))) _ _ shut so_far.2)
