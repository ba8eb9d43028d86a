use Rattle.rt_effects.proofs.Common.{◌∷◌, [], ◌++◌, ℕ, List, length, decimal, nat_lt, ap, ◌∙◌, hex, did, place_text, instruction_text}
use Rattle.rt_effects.proofs.PieceLemmas.{goes-by, empty-line}
use Rattle.rt_effects.proofs.KeptLemmas.{line-parts}
use Rattle.rt_effects.proofs.teller.Teller.push_tick.Goals as goal

pub returns : goal.returns
returns c = λ w found.
    let a = c.args.rec.now in
    let one = goes-by _ _ _ _ c.push_decimal.ensures.text (empty-line c.args.line.now.items c.requires.empty) in
    let two = goes-by _ _ _ _ (c.push_middle.ensures.text w found) one in
    let three = goes-by _ _ _ _ c.push_did.ensures.text two in
    let four = goes-by _ _ _ _ c.push_byte.ensures.text three in
    four ∙ ap (λ (l : List ℕ). l ++ 10 ∷ [])
    (line-parts (decimal c.args.t) (decimal a.task) (hex 8 a.pc) (place_text (nat_lt 1 (length c.args.self.now)) w a.pc) (instruction_text a.pc a.word)
    (did c.args.before.now (record { pc = c.args.next; x = c.args.x.now }) a))
