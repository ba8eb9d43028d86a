use Rattle.rt_effects.proofs.Common.{◌*◌, ◌++◌, List, ℕ, ap, ◌∙◌, arith}
use Rattle.rt_effects.proofs.DigitLemmas.{low-digits}
use Rattle.rt_effects.proofs.kept.put_low_bytes.Goals as goal

pub returns-clause-text : goal.returns-clause-text
returns-clause-text c =
    let is = rw c.hex_words-digits.ensures at c.put_front.ensures.text in
    is ∙ ap (λ (x : List ℕ). c.args.page.now ++ x) (low-digits (2 * c.args.bytes) c.args.value 0 (omega (arith, c.requires.few)))
