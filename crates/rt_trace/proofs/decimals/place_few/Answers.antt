use Rattle.rt_trace.proofs.Common.{ℕ, ◌/◌, ◌≤◌, List, length, decimal, subst, arith, length-decimal-le, Placed}
use Rattle.rt_trace.proofs.Places.{Placed-then, last_pair}
use Rattle.rt_trace.proofs.decimals.place_few.Goals as goal

pub place_pair-requires-clause-room : goal.place_pair-requires-clause-room
place_pair-requires-clause-room c =
    let n = c.args.number in
    let few : length (decimal (n / 100)) ≤ 2 = length-decimal-le 2 (n / 100) (omega arith) (omega (arith, c.requires.small)) (omega (arith, c.requires.small)) in
    omega (arith, c.place_short-at.ensures.moved, c.place_short-at.ensures.same, few, c.requires.room)

pub returns : goal.returns
returns c =
    subst (λ (x : List ℕ). Placed c.args.bytes.now c.place_pair.new.bytes c.args.at x c.place_pair.result)
    (last_pair c.args.number (omega (arith, c.if-number-lt100.false)) (omega (arith, c.requires.small)))
    (Placed-then c.place_short-at.ensures c.place_pair.ensures)
