use Rattle.rt_chart.proofs.Common.{◌≡◌, ℕ, List, ◌+◌, ◌/◌, ◌%◌, ◌∷◌, [], ◌++◌, take, decimal, append_assoc, ap, sym, ◌∙◌, arith}
use Rattle.rt_trace.proofs.Places.{last_two}
use Rattle.rt_chart.proofs.page.place_near.Goals as goal

pub returns-clause-text : goal.returns-clause-text
returns-clause-text c =
    let n = c.args.number in
    let at = c.args.at in
    let old = c.args.bytes.now in
    let k = c.hundreds_len.result in
    let front = decimal (n / 100) in
    let pair = (48 + n / 10 % 10) ∷ (48 + n % 10) ∷ [] in
    let hundreds : take k c.hundreds.result.now ≡ front =
    ap (λ (i : ℕ). take i c.hundreds.result.now) c.hundreds_len.ensures.value ∙ c.hundreds.ensures.text ∙ ap decimal (sym c.requires.near) in
    let begun : take (at + k) c.store_front.new.bytes ≡ take at old ++ front =
    c.store_front.ensures.text k (omega (arith, c.hundreds_len.ensures.few)) ∙ ap (λ (text : List ℕ). take at old ++ text) hundreds in
    let last : take 2 c.last_two.result ≡ pair = ap (take 2) c.last_two.ensures in
    c.store_front-2.ensures.text 2 (omega arith) ∙ ap (λ (text : List ℕ). text ++ take 2 c.last_two.result) begun
    ∙ ap (λ (text : List ℕ). (take at old ++ front) ++ text) last ∙ append_assoc (take at old) front pair
    ∙ ap (λ (text : List ℕ). take at old ++ text) (sym (append_assoc front ((48 + n / 10 % 10) ∷ []) ((48 + n % 10) ∷ [])) ∙ last_two n c.if-number-lt100.false (omega arith))
