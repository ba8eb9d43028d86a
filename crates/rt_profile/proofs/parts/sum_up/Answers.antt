use Rattle.rt_profile.proofs.Common.{◌≡◌, ◌≢◌, ◌+◌, ◌^◌, ◌<◌, nat_lt, arith, length, get_or, sym, ◌∙◌, get_or-set_other, get_or-set_same, length-set, labels, first_word}
use Rattle.std.proofs.Common.{rules, below_more}
use Rattle.rt_profile.proofs.PartLemmas.{below, below-none, below-more, part-word, count-within}
use Rattle.rt_profile.proofs.parts.sum_up.Goals as goal

pub loop-count-init : goal.loop-count-init
loop-count-init c = record {
  so_far = sym (below-none (labels c.args.symbols.now));
  done = λ w early. absurd (omega arith);
  rest = λ w late within. c.requires.counts w within;
}

pub overflow_add-before : goal.overflow_add-before
overflow_add-before c =
    let ls = labels c.args.symbols.now in
    let i = c.loop-count.count-index in
    let here = c.loop-count.invariant.rest i (omega arith) (omega (arith, c.loop-count-test.true, c.loop-count.auto.counts)) in
    let sum : c.loop-count.before + get_or c.loop-count.counts i 0 ≡ below ls (i + 1) = omega (arith, c.loop-count.invariant.so_far, here, below-more ls i) in
    let fits : c.loop-count.before + get_or c.loop-count.counts i 0 < 2 ^ 32 =
    omega (arith, sum, count-within (λ l. nat_lt (first_word l.address) (i + 1)) c.args.symbols.now, c.requires.few) in
    search rules

pub loop-count-preserved : goal.loop-count-preserved
loop-count-preserved c =
    let ls = labels c.args.symbols.now in
    let i = c.loop-count.count-index in
    let xs = c.loop-count.counts in
    let lt : i < length xs = omega (arith, c.loop-count-test.true, c.loop-count.auto.counts) in
    let here = c.loop-count.invariant.rest i (omega arith) lt in
    let sum : c.loop-count.before + get_or xs i 0 ≡ below ls (i + 1) = omega (arith, c.loop-count.invariant.so_far, here, below-more ls i) in
    record {
      so_far = sum;
      done =
          below_more _ _ (λ w early. let ne : w ≢ i = omega arith in rw get_or-set_other (c.loop-count.invariant.done w early))
          (rw get_or-set_same (sum ∙ sym (part-word ls i)));
      rest = λ w late within.
          let ne : w ≢ i = omega arith in
          let inside : w < length xs = omega (arith, within, length-set xs i (c.loop-count.before + get_or xs i 0)) in
          rw get_or-set_other (c.loop-count.invariant.rest w (omega arith) inside);
    }
