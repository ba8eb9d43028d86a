use Rattle.rt_profile.proofs.Common.{◌≡◌, ℕ, ◌<◌, ◌==◌, length, take, count_by, get_or, labels, first_word}
use Rattle.rt_profile.proofs.parts.count_first_words.Given as goal

abbrev pub invariant-loop-symbol : goal.invariant-loop-symbol
invariant-loop-symbol l =
    (w : ℕ) → w < length l.counts → get_or l.counts w 0 ≡ count_by (λ x. first_word x.address == w) (labels (take l.symbol-index l.symbols))
