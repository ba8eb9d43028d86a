use Rattle.rt_effects.proofs.Common.{◌≡◌, ◌++◌, ◌∷◌, [], ℕ, List, length, nat_lt, take, decimal, Some, append_assoc, sym, ap, ◌∙◌, hex, plain_attempt, did, place_text, instruction_text, middle_text, name_text}
use Rattle.rt_effects.proofs.KeptLemmas.{did-plain, line-parts}
use Rattle.rt_effects.proofs.kept.Kept.put_line.Goals as goal

pub returns-clause-text : goal.returns-clause-text
returns-clause-text c = λ ws w is there.
    let kept = c.args.self.now in
    let old = c.args.page.now in
    let t = c.args.t in
    let x = c.args.before.now in
    let several = nat_lt 1 (length ws) in
    let tick = decimal t in
    let middle = middle_text several w kept.task kept.pc (Some kept.word) in
    let name = name_text kept.written in
    let i = is.sound.instruction in
    let what = did x (record { pc = c.args.next; x = c.args.x.now }) (plain_attempt kept.task kept.pc kept.word) in
    let begins : c.put_front.new.page ≡ ((old ++ tick) ++ middle) ++ name =
    c.put_front.ensures.text ∙ ap (λ (l : List ℕ). l ++ take kept.len kept.text) c.put_tick.ensures.text
    ∙ ap (λ (l : List ℕ). (old ++ tick) ++ l) (is.told w there) ∙ sym (append_assoc (old ++ tick) middle name) in
    c.put_did.ensures.text ((old ++ tick) ++ middle) i is.sound.decoded begins
    ∙ ap (λ (l : List ℕ). (((old ++ tick) ++ middle) ++ l) ++ 10 ∷ []) (sym (did-plain kept.task kept.pc kept.word c.args.next i x c.args.x.now is.sound.decoded))
    ∙ ap (λ (l : List ℕ). l ++ 10 ∷ [])
    (ap (λ (l : List ℕ). l ++ what) (append_assoc old tick middle) ∙ append_assoc old (tick ++ middle) what
    ∙ ap (λ (l : List ℕ). old ++ l) (line-parts tick (decimal kept.task) (hex 8 kept.pc) (place_text several w kept.pc) (instruction_text kept.pc (Some kept.word)) what))
    ∙ append_assoc old _ (10 ∷ [])
