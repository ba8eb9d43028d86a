use Rattle.rt_effects.proofs.Common.{◌≡◌, Some, List, length, slice_get, decimal, nat_lt, ap, ◌∙◌, hex, TaskWords, place_text, instruction_text}
use Rattle.rt_effects.proofs.WordLemmas.{found-at}
use Rattle.rt_effects.proofs.PieceLemmas.{goes-by}
use Rattle.rt_effects.proofs.KeptLemmas.{middle-parts}
use Rattle.rt_effects.proofs.teller.Teller.push_middle.Goals as goal

pub returns-clause-text : goal.returns-clause-text
returns-clause-text c = λ w found.
    let i = c.args.number in
    let pc = c.args.pc in
    let ws = c.as_slice-tasks.result.now in
    let all : ws ≡ c.args.self.now = c.as_slice-tasks.ensures.value ∙ c.self.view_is in
    let there : slice_get ws i ≡ Some w = ap (λ (vs : List TaskWords). slice_get vs i) all ∙ found in
    let task : c.index-tasks-number.result ≡ w = c.index-tasks-number.is ∙ found-at ws i w _ there in
    let count : length ws ≡ length c.args.self.now = ap (λ (vs : List TaskWords). length vs) all in
    let two = goes-by _ _ _ _ (rw c.from.ensures at c.push_decimal.ensures.text) c.push_byte.ensures.text in
    let three = goes-by _ _ _ _ c.push_byte-2.ensures.text two in
    let four = goes-by _ _ _ _ c.push_hex.ensures.text three in
    let five = goes-by _ _ _ _ c.push_byte-3.ensures.text four in
    let six = goes-by _ _ _ _ (rw (task, count) at c.push_place.ensures.text) five in
    let seven = goes-by _ _ _ _ c.push_byte-4.ensures.text six in
    let eight = goes-by _ _ _ _ c.push_instruction.ensures.text seven in
    let nine = goes-by _ _ _ _ c.push_byte-5.ensures.text eight in
    nine ∙ middle-parts c.args.line.now.items (decimal i) (hex 8 pc) (place_text (nat_lt 1 (length c.args.self.now)) w pc) (instruction_text pc c.args.word)
