use Rattle.rt_effects.proofs.Common.{◌*◌, ◌++◌, List, ℕ, ap, ◌∙◌, arith}
use Rattle.rt_effects.proofs.DigitLemmas.{sliced-digits}
use Rattle.rt_effects.proofs.instruction.push_low_bytes.Goals as goal

pub returns-clause-text : goal.returns-clause-text
returns-clause-text g c =
    let is = rw c.hex_word-digits.ensures at c.push_text.ensures.text in
    is ∙ ap (λ (x : List ℕ). c.args.line.now.items ++ x) (sliced-digits (2 * c.args.bytes) c.args.value (omega (arith, c.requires.few)))
