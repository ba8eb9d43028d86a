use Rattle.rt_trace.proofs.Common.{ℕ, ◌/◌, ◌≤◌, List, length, decimal, subst, arith, length-decimal-le, Placed}
use Rattle.rt_trace.proofs.Places.{Placed-then, last_eight}
use Rattle.rt_trace.proofs.decimals.+place_decimal.Goals as goal

pub returns-then-number-lt100000000-clause-short : goal.returns-then-number-lt100000000-clause-short
returns-then-number-lt100000000-clause-short t c =
    let small = c.if-number-lt100000000.true in
    omega (arith, c.place_some.ensures.moved, length-decimal-le 8 c.args.number (omega arith) (omega (arith, small)) (omega (arith, small)))

pub place_four-at-requires-clause-room : goal.place_four-at-requires-clause-room
place_four-at-requires-clause-room t c =
    let n = c.args.number in
    let front : length (decimal (n / 100000000)) ≤ 12 = length-decimal-le 12 (n / 100000000) (omega arith) (omega (arith, c.ranges.number.fits)) (omega (arith, c.ranges.number.fits)) in
    omega (arith, c.place_decimal-at.ensures.text.moved, c.place_decimal-at.ensures.text.same, front, c.requires)

pub place_four-requires-clause-room : goal.place_four-requires-clause-room
place_four-requires-clause-room t c =
    let n = c.args.number in
    let front : length (decimal (n / 100000000)) ≤ 12 = length-decimal-le 12 (n / 100000000) (omega arith) (omega (arith, c.ranges.number.fits)) (omega (arith, c.ranges.number.fits)) in
    omega (arith, c.place_decimal-at.ensures.text.moved, c.place_decimal-at.ensures.text.same, c.place_four-at.ensures.moved, c.place_four-at.ensures.same, front, c.requires)

pub returns-clause-text : goal.returns-clause-text
returns-clause-text t c =
    subst (λ (x : List ℕ). Placed c.args.bytes.now c.place_four.new.bytes c.args.at x c.place_four.result)
    (last_eight c.args.number (omega (arith, c.if-number-lt100000000.false)) (omega (arith, c.ranges.number.fits)))
    (Placed-then (Placed-then c.place_decimal-at.ensures.text c.place_four-at.ensures) c.place_four.ensures)

pub returns-clause-short : goal.returns-clause-short
returns-clause-short t c =
    let n = c.args.number in
    let front : length (decimal (n / 100000000)) ≤ 12 = length-decimal-le 12 (n / 100000000) (omega arith) (omega (arith, c.ranges.number.fits)) (omega (arith, c.ranges.number.fits)) in
    omega (arith, c.place_decimal-at.ensures.text.moved, c.place_four-at.ensures.moved, c.place_four.ensures.moved, front)
