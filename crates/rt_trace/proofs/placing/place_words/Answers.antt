use Rattle.rt_trace.proofs.Common.{ℕ, List, subst, Placed}
use Rattle.rt_trace.proofs.Places.{Placed-then, halves}
use Rattle.rt_trace.proofs.placing.place_words.Goals as goal

pub returns-clause-text : goal.returns-clause-text
returns-clause-text c =
    let all = Placed-then (Placed-then c.place_front-at.ensures c.place_byte-at.ensures) c.place_front.ensures in
    subst (λ (x : List ℕ). Placed c.args.bytes.now c.place_front.new.bytes c.args.at x c.place_front.result)
    (halves c.args.pc c.args.word c.hex_words-digits.result c.hex_words-digits.ensures) all
