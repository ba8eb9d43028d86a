use Rattle.rt_elf.proofs.Common.{sym, ◌∙◌, true≢false, named}
use Rattle.rt_elf.proofs.flat.NameLemmas.{length-entries}
use Rattle.rt_elf.proofs.flat.PlaceLemmas.{not_misplaced}
use Rattle.rt_elf.proofs.flat.names.Names.are_misplaced.Goals as goal

pub returns-else-is_empty : goal.returns-else-is_empty
returns-else-is_empty c =
    c.if-is_empty.false
    ∙ sym (not_misplaced c.args.size c.args.text.now (named c.args.self.now)
    (λ none. true≢false (sym (c.if-is_empty.ensures.1 (sym (length-entries c.args.self.now.symbols.entries) ∙ none)))) c.requires.read)
