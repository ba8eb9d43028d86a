use Rattle.rt_waves.proofs.Common.{◌≡◌, ◌+◌, ◌++◌, ℕ, List, length, take, drop, sym, ap, subst, ◌∙◌, arith, Placed, Placed-then}
use Rattle.std.proofs.Common.{length-take-le, take-add, take-take}
use Rattle.rt_trace.proofs.Places.{Placed-front}
use Rattle.rt_waves.proofs.page.place_few.Goals as goal

pub place_front-requires-clause-room : goal.place_front-requires-clause-room
place_front-requires-clause-room c =
    let long : length (take 32 c.args.text.now) ≡ 32 = length-take-le 32 c.args.text.now (omega (arith, c.told-text)) in
    omega (arith, c.place_front-next.ensures.moved, c.place_front-next.ensures.same, long, c.requires.room)

pub returns : goal.returns
returns c =
    let text = c.args.text.now in
    let both = Placed-then c.place_front-next.ensures c.place_front.ensures in
    let front : take 32 text ++ take 16 (take 48 (drop 32 text)) ≡ take 48 text =
    ap (λ (x : List ℕ). take 32 text ++ x) (take-take 16 48 (drop 32 text) (omega arith)) ∙ sym (take-add 32 16 text) in
    let all = subst (λ (x : List ℕ). Placed c.args.bytes.now c.place_front.new.bytes c.args.at x c.place_front.result) front both in
    let some = Placed-front c.args.count (omega (arith, c.requires.room)) (omega (arith, c.requires.few, length-take-le 48 text (omega (arith, c.told-text)))) all in
    subst (λ (x : List ℕ). Placed c.args.bytes.now c.place_front.new.bytes c.args.at x (c.args.at + c.args.count)) (take-take c.args.count 48 text c.requires.few) some
