use Rattle.rt_trace.proofs.Common.{◌≡◌, ◌+◌, ◌-◌, ◌/◌, ◌%◌, ◌≤◌, ◌<◌, ℕ, List, ◌∷◌, [], ◌++◌, take, decimal, sym, ◌∙◌, subst, append_assoc, arith, Placed}
use Rattle.rt_trace.proofs.Places.{Placed-then, last_two}
use Rattle.rt_trace.proofs.tick_text.Hundred.place.Goals as goal

pub returns : goal.returns
returns c =
    let inside = c.self.inside in
    let digits = c.self.invariant in
    let tick = c.args.tick in
    let rest = tick - inside.first in
    let begun : inside.first ≤ tick = omega (arith, c.self.view_is, c.requires.begun) in
    let within : tick < inside.first + 100 = omega (arith, c.self.view_is, c.requires.within) in
    let large : 100 ≤ inside.first = omega (arith, c.self.view_is, c.requires.large) in
    let hundreds : inside.first / 100 ≡ tick / 100 = omega (arith, digits.whole, begun, within) in
    let tens : rest / 10 ≡ tick / 10 % 10 = omega (arith, digits.whole, begun, within) in
    let ones : rest % 10 ≡ tick % 10 = omega (arith, digits.whole, begun, within) in
    let all = rw c.pair_of.ensures at (Placed-then c.place_front-at.ensures c.place_front.ensures) in
    let text : take inside.count inside.digits ++ (48 + rest / 10) ∷ (48 + rest % 10) ∷ [] ≡ decimal tick =
    rw (digits.front large, hundreds, tens, ones) (sym (append_assoc (decimal (tick / 100)) ((48 + tick / 10 % 10) ∷ []) ((48 + tick % 10) ∷ [])))
    ∙ last_two tick (omega (arith, large, begun)) (omega (arith, digits.limit, within)) in
    subst (λ (x : List ℕ). Placed c.args.bytes.now c.place_front.new.bytes c.args.at x c.place_front.result) text all
