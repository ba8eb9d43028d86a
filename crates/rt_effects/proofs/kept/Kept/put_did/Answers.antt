use Rattle.rt_effects.proofs.Common.{◌≡◌, ◌++◌, ℕ, Bool, false, List, ◌∷◌, [], Option, append_assoc, sym, ap, ◌∙◌, is_some, option_map, Ins, accessed, source, name_text}
use Rattle.std.proofs.Common.{◌||◌, slice_index}
use Rattle.rt_effects.specs.Did.{target, written, access_text, jumped}
use Rattle.rt_effects.specs.Working.Pieces.{piece_text, nothing}
use Rattle.rt_effects.specs.Working.Kept.{number_of, value_text, reached}
use Rattle.rt_effects.proofs.PieceLemmas.{in-turn}
use Rattle.rt_effects.proofs.KeptLemmas.{written-whole, written-begun, access-whole, access-begun, same-instruction}
use Rattle.rt_effects.proofs.kept.Kept.put_did.Goals as goal

pub returns-clause-text : goal.returns-clause-text
returns-clause-text c = λ front i is begins.
    let sound = c.requires.sound in
    let kept = c.args.self.now in
    let x = c.args.x.now in
    let before = c.args.before.now in
    let same : sound.instruction ≡ i = same-instruction kept.word sound.instruction i sound.decoded is in
    let register : kept.written ≡ number_of (target i) = sound.register ∙ ap (λ (j : Ins). number_of (target j)) same in
    let accesses : accessed before i ≡ option_map (λ r. reached r before) kept.reach = ap (accessed before) (sym same) ∙ sound.accesses before in
    let stores = rw same at sound.stores in
    let p = written (target i) x in
    let q : Option (List ℕ) = option_map (λ a. access_text a (slice_index before (source i))) (accessed before i) in
    let r = jumped kept.pc c.args.next in
    let begun_p : c.put_value-begun.result ≡ is_some p = c.put_value-begun.ensures.begun ∙ rw register (written-begun (target i) x) in
    let begun_q : c.put_access-begun.result ≡ (is_some p || is_some q) =
    c.put_access-begun.ensures.begun ∙ ap (λ (b : Bool). b || is_some kept.reach) begun_p
    ∙ ap (λ (b : Bool). is_some p || b) (access-begun before i kept.reach (slice_index before (source i)) accesses) in
    let begun_r : c.put_jumped-begun.result ≡ ((is_some p || is_some q) || is_some r) = c.put_jumped-begun.ensures.begun ∙ ap (λ (b : Bool). b || is_some r) begun_q in
    let one : c.put_value-begun.new.page ≡ front ++ piece_text false p =
    c.put_value-begun.ensures.text ∙ ap (λ (l : List ℕ). l ++ value_text kept.written x) begins ∙ append_assoc front (name_text kept.written) (value_text kept.written x)
    ∙ ap (λ (n : ℕ). front ++ (name_text n ++ value_text n x)) register ∙ ap (λ (l : List ℕ). front ++ l) (written-whole (target i) x) in
    let two : c.put_access-begun.new.page ≡ c.put_value-begun.new.page ++ piece_text (is_some p) q =
    c.put_access-begun.ensures.text
    ∙ ap (λ (b : Bool). c.put_value-begun.new.page ++ piece_text b (option_map (λ r. access_text (reached r before) (slice_index before r.source)) kept.reach)) begun_p
    ∙ ap (λ (o : Option (List ℕ)). c.put_value-begun.new.page ++ piece_text (is_some p) o) (access-whole before i kept.reach accesses stores) in
    let three : c.put_jumped-begun.new.page ≡ c.put_access-begun.new.page ++ piece_text (is_some p || is_some q) r =
    c.put_jumped-begun.ensures.text ∙ ap (λ (b : Bool). c.put_access-begun.new.page ++ piece_text b r) begun_q in
    let four = ap (λ (b : Bool). c.put_jumped-begun.new.page ++ nothing b) begun_r in
    c.put_end.ensures.text
    ∙ ap (λ (l : List ℕ). l ++ 10 ∷ [])
    (in-turn front c.put_value-begun.new.page c.put_access-begun.new.page c.put_jumped-begun.new.page (c.put_jumped-begun.new.page ++ nothing c.put_jumped-begun.result) p q r one two three four)
