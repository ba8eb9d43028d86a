use Rattle.rt_effects.proofs.Common.{◌∷◌, [], ◌++◌, ℕ, List, length, decimal, nat_lt, Some, sym, ap, ◌∙◌, hex, plain_attempt, did, place_text, instruction_text, middle_text}
use Rattle.rt_effects.proofs.PieceLemmas.{goes-by}
use Rattle.rt_effects.proofs.KeptLemmas.{did-plain, line-parts}
use Rattle.rt_effects.proofs.teller.Teller.tell_plain.Goals as goal

pub returns-in-Some-clause-text : goal.returns-in-Some-clause-text
returns-in-Some-clause-text c = λ w found.
    let i = c.args.number in
    let pc = c.args.pc in
    let word = c.args.word in
    let several = nat_lt 1 (length c.args.self.now) in
    let before = c.args.before.now in
    let x = c.args.x.now in
    let middle = middle_text several w i pc (Some word) in
    let two = goes-by _ _ _ _ c.push_carried_out.ensures.text (c.push_kept.ensures.text w found) in
    let three = goes-by _ _ _ _ c.push_byte.ensures.text two in
    three
    ∙ ap (λ (l : List ℕ). ((decimal c.args.t ++ middle) ++ l) ++ 10 ∷ []) (sym (did-plain i pc word c.args.next c.in-Some.instruction before x (sym c.decode.ensures ∙ c.in-Some.is)))
    ∙ ap (λ (l : List ℕ). l ++ 10 ∷ [])
    (line-parts (decimal c.args.t) (decimal i) (hex 8 pc) (place_text several w pc) (instruction_text pc (Some word)) (did before (record { pc = c.args.next; x = x }) (plain_attempt i pc word)))
