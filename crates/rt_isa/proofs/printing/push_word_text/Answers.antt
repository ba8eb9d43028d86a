use Rattle.rt_isa.proofs.Common.{◌≡◌, ℕ, List, ◌++◌, codes, ap, ◌∙◌, append_assoc, hex}
use Rattle.std.proofs.Common.{take}
use Rattle.rt_isa.proofs.printing.push_word_text.Goals as goal

pub returns-clause-text : goal.returns-clause-text
returns-clause-text c =
    let out = c.args.line.now.items in
    let back : take c.len-start.result c.push_statement.new.line.items ≡ out = rw c.len-start.ensures.value (c.push_statement.ensures.front c.if-push_statement.false) in
    rw (c.push_text-2.ensures.text, c.push_text.ensures.text, c.hex_word.ensures, c.truncate.ensures.items, back) (
    append_assoc out (codes ".word 0x") (hex 8 c.args.word)
    ∙ ap (λ (l : List ℕ). out ++ l) (c.push_statement.ensures.none c.if-push_statement.false))
