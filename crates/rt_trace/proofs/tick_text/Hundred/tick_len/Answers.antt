use Rattle.rt_trace.proofs.Common.{◌≡◌, ◌+◌, ◌/◌, ◌≤◌, ◌<◌, ℕ, List, take, length, length-take-le, decimal, ap, arith}
use Rattle.rt_trace.proofs.Places.{length-last_two}
use Rattle.rt_trace.proofs.tick_text.Hundred.tick_len.Goals as goal

pub returns-clause-exact : goal.returns-clause-exact
returns-clause-exact c = λ t from below.
    let inside = c.self.inside in
    let digits = c.self.invariant in
    let begun : inside.first ≤ t = omega (arith, c.self.view_is, from) in
    let within : t < inside.first + 100 = omega (arith, c.self.view_is, below) in
    let large : 100 ≤ inside.first = omega (arith, c.self.view_is, c.requires) in
    let hundreds : inside.first / 100 ≡ t / 100 = omega (arith, digits.whole, begun, within) in
    let front : length (take inside.count inside.digits) ≡ inside.count = length-take-le inside.count inside.digits (omega (arith, digits.few)) in
    let count : inside.count ≡ length (decimal (t / 100)) = omega (arith, front, ap (λ (xs : List ℕ). length xs) (digits.front large), ap (λ n. length (decimal n)) hundreds) in
    omega (arith, count, length-last_two t (omega (arith, large, begun)) (omega (arith, digits.limit, within)))
