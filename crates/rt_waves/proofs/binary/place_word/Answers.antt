use Rattle.rt_waves.proofs.Common.{ℕ, List, sym, subst, arith, Placed, Placed-then}
use Rattle.rt_waves.proofs.BinaryLemmas.{two-behind}
use Rattle.rt_waves.proofs.binary.place_word.Goals as goal

pub returns-clause-text : goal.returns-clause-text
returns-clause-text c =
    subst (λ (x : List ℕ). Placed c.args.bytes.now c.place_eight.new.bytes c.args.at x c.place_eight.result) (sym (two-behind c.args.word (omega arith) (omega arith)))
    (Placed-then (Placed-then c.place_half-at.ensures.text c.place_eight-at.ensures.text) c.place_eight.ensures.text)
