use Rattle.rt_effects.proofs.Common.{◌≡◌, ◌+◌, ◌-◌, ◌++◌, ℕ, List, take, drop, append_assoc, sym, ap, ◌∙◌, arith}
use Rattle.std.proofs.Common.{take-add, take-take}
use Rattle.rt_effects.proofs.kept.put_front.Goals as goal

pub returns-else-len-le64-clause-text : goal.returns-else-len-le64-clause-text
returns-else-len-le64-clause-text c =
    let old = c.args.page.now in
    let text = c.args.text.now in
    let n = c.args.len in
    let all : 64 + (n - 64) ≡ n = omega (arith, c.if-len-le64.false) in
    c.put_front-else-len-le64-2.ensures.text
    ∙ ap (λ (x : List ℕ). x ++ take (n - 64) (take 64 (drop 64 text))) c.put_front-else-len-le64.ensures.text
    ∙ append_assoc old (take 64 text) (take (n - 64) (take 64 (drop 64 text)))
    ∙ ap (λ (x : List ℕ). old ++ (take 64 text ++ x)) (take-take (n - 64) 64 (drop 64 text) (omega (arith, c.requires.few)))
    ∙ ap (λ (x : List ℕ). old ++ x) (sym (take-add 64 (n - 64) text))
    ∙ ap (λ (k : ℕ). old ++ take k text) all
