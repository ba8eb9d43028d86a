use Rattle.rt_profile.proofs.Common.{◌≡◌, ℕ, ◌<◌, ◌≤◌, ◌+◌, ◌*◌, ◌==◌, length, count_by, get_or, base, labels, part, first_word}
use Rattle.rt_profile.proofs.PartLemmas.{below}
use Rattle.rt_profile.proofs.parts.sum_up.Given as goal

abbrev pub invariant-loop-count : goal.invariant-loop-count
invariant-loop-count l = record {
  so_far : l.before ≡ below (labels l.symbols) l.count-index;
  done : (w : ℕ) → w < l.count-index → get_or l.counts w 0 ≡ part (labels l.symbols) (base + 4 * w);
  rest : (w : ℕ) → l.count-index ≤ w → w < length l.counts → get_or l.counts w 0 ≡ count_by (λ x. first_word x.address == w) (labels l.symbols);
}
