use Rattle.rt_effects.proofs.Common.{◌++◌, List, ℕ, ap, ◌∙◌}
use Rattle.rt_effects.proofs.DigitLemmas.{first-digits}
use Rattle.rt_effects.proofs.page.Page.put_hex.Goals as goal

pub returns-clause-text : goal.returns-clause-text
returns-clause-text c =
    let is = rw c.hex_words.ensures at c.put_front.ensures.text in
    is ∙ ap (λ (x : List ℕ). c.args.self.now ++ x) (first-digits c.args.word 0)
