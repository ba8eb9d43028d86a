use Rattle.rt_waves.proofs.Common.{◌≡◌, ℕ, List, ◌++◌, ap, ◌∙◌}
use Rattle.rt_waves.specs.WavesText.{variables}
use Rattle.rt_waves.proofs.head.SignalsText.offer.Goals as goal

pub returns : goal.returns
returns g c =
    let text : c.deref.result.now ≡ variables c.args.self.now.0 =
    c.deref.ensures.0 ∙ c.push_variables.ensures ∙ ap (λ (xs : List ℕ). xs ++ variables c.args.self.now.0) c.new-lines.ensures in
    record { offers = rw text at c.put.ensures; short = rw text at c.deref.ensures.1 }
