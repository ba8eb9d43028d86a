use Rattle.rt_trace.proofs.Common.{◌≡◌, ◌+◌, ℕ, List, [], ◌∷◌, ◌++◌, length, decimal, subst, arith, hex, Placed}
use Rattle.rt_trace.proofs.Places.{Placed-then, line_parts}
use Rattle.rt_trace.proofs.page.put_plain_line.Goals as goal

pub returns-clause-text : goal.returns-clause-text
returns-clause-text c = λ task named.
    let t = c.args.t in
    let at = c.args.at in
    let tick = c.place.ensures in
    let ticks : c.tick_len-name_at.result ≡ length (decimal t) = c.tick_len-name_at.ensures.exact t c.requires.begun c.requires.within in
    let name_at : at + c.tick_len-name_at.result ≡ c.place.result = omega (arith, ticks, tick.moved) in
    let name = subst (λ (k : ℕ). Placed c.place.new.bytes c.place-2.new.bytes k c.args.name.now c.place-2.result) name_at c.place-2.ensures in
    let words_at : at + (c.tick_len-name_at.result + c.len.result) ≡ c.place-2.result = omega (arith, name.moved, c.len.ensures.exact, name_at) in
    let words = subst (λ (k : ℕ). Placed c.place-2.new.bytes c.place_words-end.new.bytes k (hex 8 c.args.pc ++ 32 ∷ [] ++ hex 8 c.args.word) c.place_words-end.result) words_at
    c.place_words-end.ensures.text in
    let all = Placed-then (Placed-then (Placed-then tick name) words) c.place_front.ensures in
    subst (λ (x : List ℕ). Placed c.args.bytes.now c.place_front.new.bytes at x c.place_front.result)
    (line_parts (decimal t) (decimal task) (hex 8 c.args.pc) (hex 8 c.args.word)) (rw named at all)
