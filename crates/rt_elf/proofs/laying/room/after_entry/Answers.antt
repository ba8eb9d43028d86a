use Rattle.rt_elf.proofs.Common.{◌≡◌, ◌∙◌, ap, ℕ, length, arith, List, Entry, lacks_name, contents, names_of, entry, entry_count}
use Rattle.rt_elf.proofs.NameLemmas.{none_of}
use Rattle.rt_elf.proofs.laying.room.after_entry.Goals as goal

pub is_entry_of-requires-clause-named : goal.is_entry_of-requires-clause-named
is_entry_of-requires-clause-named c =
    let file = c.args.file.now in
    let table = c.args.table.now in
    let names_is : c.contents-names.result.now ≡ names_of file table = c.contents-names.ensures ∙ ap (contents file) c.section_header.ensures in
    let none = none_of (lacks_name (length (names_of file table))) (entry file table) 0 (entry_count table) c.args.number c.requires.table.named (omega arith) (omega arith) in
    ap (λ (e : Entry). lacks_name (length c.contents-names.result.now) e) c.entry_at.ensures ∙ ap (λ (names : List ℕ). lacks_name (length names) (entry file table c.args.number)) names_is ∙ none
