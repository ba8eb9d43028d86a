use Rattle.rt_trace.proofs.Common.{ℕ, ◌/◌, ◌≤◌, List, length, decimal, subst, arith, length-decimal-le, Placed}
use Rattle.rt_trace.proofs.Places.{Placed-then, last_four}
use Rattle.rt_trace.proofs.decimals.place_some.Goals as goal

pub place_four-requires-clause-room : goal.place_four-requires-clause-room
place_four-requires-clause-room c =
    let n = c.args.number in
    let few : length (decimal (n / 10000)) ≤ 4 = length-decimal-le 4 (n / 10000) (omega arith) (omega (arith, c.requires.small)) (omega (arith, c.requires.small)) in
    omega (arith, c.place_few-at.ensures.moved, c.place_few-at.ensures.same, few, c.requires.room)

pub returns : goal.returns
returns c =
    subst (λ (x : List ℕ). Placed c.args.bytes.now c.place_four.new.bytes c.args.at x c.place_four.result)
    (last_four c.args.number (omega (arith, c.if-number-lt10000.false)) (omega (arith, c.requires.small)))
    (Placed-then c.place_few-at.ensures c.place_four.ensures)
