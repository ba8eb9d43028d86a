use Rattle.rt_isa.proofs.Common.{◌≡◌, sym, subst, ◌∙◌}
use Rattle.std.specs.Prelude.{IsUtf8}
use Rattle.std.proofs.lemmas.Str.{IsUtf8-from_ascii}
use Rattle.rt_isa.specs.Print.{text}
use Rattle.rt_isa.proofs.AsciiLemmas.{ascii_text}
use Rattle.rt_isa.proofs.printing.disasm.Goals as goal

pub unreachable-requires : goal.unreachable-requires
unreachable-requires c =
    let whole = text c.args.pc c.args.word in
    let line : c.push_word_text.new.line.items ≡ whole = rw c.new-line.ensures at c.push_word_text.ensures.text in
    absurd (c.in-Err.ensures.cases.0 (subst IsUtf8 (sym (c.deref.ensures.0 ∙ line)) (IsUtf8-from_ascii whole (ascii_text c.args.pc c.args.word))))
