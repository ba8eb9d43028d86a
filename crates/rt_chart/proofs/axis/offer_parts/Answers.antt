use Rattle.rt_chart.proofs.Common.{◌≡◌, ◌+◌, ◌-◌, ◌≤◌, ◌<◌, ℕ, [], ◌++◌, min, refl, sym, ap, ◌∙◌, arith, flat_map, range_with_len, Offers-nil, Offers-then, ticks_in, part_at}
use Rattle.rt_chart.proofs.PieceLemmas.{flat_map-range-more}
use Rattle.rt_chart.proofs.AxisLemmas.{rest-next, rest-between, rest-before, part-none, flat_map-gap}
use Rattle.rt_chart.proofs.axis.offer_parts.Goals as goal

pub ticks-init : goal.ticks-init
ticks-init g c =
    let l = c.args.scale.now.look in
    let from = l.window.from in
    let first = c.multiple_from-tick.result in
    let text = part_at l c.args.part in
    let count = min (first - from) (ticks_in l.window + 1) in
    let made = c.multiple_from-tick.ensures in
    let is = c.step-step.ensures.value in
    let none : (j : ℕ) → from + 0 ≤ j → j < from + 0 + count → text j ≡ [] =
    λ j later before. part-none l c.args.part j (rw is at (rest-before first j c.step-step.result made.multiple (omega arith) (omega (arith, made.near)))) in
    let whole : count ≡ 0 + count = omega arith in
    let empty : [] ≡ flat_map text (range_with_len from count) = sym (ap (λ (n : ℕ). flat_map text (range_with_len from n)) whole ∙ flat_map-gap text from 0 count none) in
    record {
      multiple = made.multiple;
      onward = made.onward;
      near = omega (arith, made.near);
      same = refl;
      bound = omega arith;
      offered = rw empty at (Offers-nil g.S.Sink.seen c.args.out.now.written c.args.out.now.sink.now);
    }

pub ticks-preserved : goal.ticks-preserved
ticks-preserved g c =
    let l = c.args.scale.now.look in
    let from = l.window.from in
    let t = c.ticks.tick in
    let s = c.step-step.result in
    let is = c.step-step.ensures.value in
    let text = part_at l c.args.part in
    let before = c.ticks.invariant in
    let some = c.step-step.ensures.some in
    let done : min (t - from) (ticks_in l.window + 1) ≡ t - from = omega (arith, before.onward) in
    let k = min (s - 1) (l.window.to - t) in
    let place : from + (t - from) ≡ t = omega (arith, before.onward) in
    let none : (j : ℕ) → from + ((t - from) + 1) ≤ j → j < from + ((t - from) + 1) + k → text j ≡ [] =
    λ j later earlier. part-none l c.args.part j (rw is at (rest-between t j s before.multiple (omega (arith, before.onward)) (omega (arith, before.onward)))) in
    let count : min ((t + s) - from) (ticks_in l.window + 1) ≡ ((t - from) + 1) + k = omega (arith, before.onward, some) in
    let more : flat_map text (range_with_len from (min ((t + s) - from) (ticks_in l.window + 1))) ≡ flat_map text (range_with_len from (t - from)) ++ text t =
    ap (λ (n : ℕ). flat_map text (range_with_len from n)) count ∙ flat_map-gap text from ((t - from) + 1) k none ∙ flat_map-range-more text from (t - from) t place in
    let begun = rw done at before.offered in
    let offered = Offers-then g.S.Sink.seen _ _ _ _ _ _ _ _ begun c.offer_part.ensures.offers in
    record {
      multiple = rest-next t s before.multiple;
      onward = omega (arith, before.onward);
      near = omega arith;
      same = c.offer_part.ensures.same ∙ before.same;
      bound = omega (arith, c.offer_part.ensures.bound, before.bound, done, count);
      offered = rw more offered;
    }
