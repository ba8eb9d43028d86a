use Rattle.rt_trace.proofs.Common.{ℕ, List, subst, Placed}
use Rattle.rt_trace.proofs.Places.{Placed-then, unread}
use Rattle.rt_trace.proofs.line_rest.place_unread.Goals as goal

pub returns-clause-text : goal.returns-clause-text
returns-clause-text c =
    subst (λ (x : List ℕ). Placed c.args.bytes.now c.place_front.new.bytes c.args.at x c.place_front.result)
    (unread c.args.pc c.hex_word.result c.hex_word.ensures)
    (Placed-then (Placed-then c.place_front-at.ensures c.place_byte-at.ensures) c.place_front.ensures)
