use Rattle.rt_isa.proofs.Common.{◌++◌, ◌∙◌, codes, sym, append_assoc, hex}
use Rattle.rt_isa.specs.Print.{register}
use Rattle.rt_isa.proofs.Digits.{last_five}
use Rattle.rt_isa.proofs.operands.push_upper.Goals as goal

pub returns-clause-text : goal.returns-clause-text
returns-clause-text c =
    let front = c.args.line.now.items ++ codes " " ++ register c.args.rd in
    let digits = hex 5 c.args.value in
    rw (c.push_text-2.ensures.text, c.hex_word.ensures, c.value.ensures.value, last_five c.args.value, c.push_text.ensures.text, c.push_first.ensures.text) (
    append_assoc front (codes ",0x") digits ∙ sym (append_assoc front (codes ",") (codes "0x" ++ digits)))
