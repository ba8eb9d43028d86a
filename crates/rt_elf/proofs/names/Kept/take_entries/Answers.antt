use Rattle.rt_elf.proofs.Common.{◌≡◌, ◌∙◌, ◌<◌, ◌+◌, ◌-◌, sym, ap, arith, ℕ, List, length, fold, Named, Entry, numbered, contents, names_of, entry, entry_count, told_by, keep, lacks_name, kept}
use Rattle.rt_elf.specs.Working.Keeping.{taken}
use Rattle.rt_elf.proofs.NameLemmas.{entries_more, none_of}
use Rattle.rt_elf.proofs.names.Kept.take_entries.Goals as goal

pub take_entry-requires-clause-named : goal.take_entry-requires-clause-named
take_entry-requires-clause-named c =
    let file = c.args.file.now in
    let table = c.args.table.now in
    let names_is : c.contents-names.result.now ≡ names_of file table = c.contents-names.ensures ∙ ap (contents file) c.section_header.ensures in
    let none = none_of (lacks_name (length (names_of file table))) (entry file table) 0 (entry_count table) c.loop-number.number c.requires.table.named (omega arith) (omega arith) in
    ap (λ (e : Entry). lacks_name (length c.contents-names.result.now) e) c.entry_at.ensures ∙ ap (λ (names : List ℕ). lacks_name (length names) (entry file table c.loop-number.number)) names_is ∙ none

pub loop-number-preserved : goal.loop-number-preserved
loop-number-preserved c =
    let file = c.args.file.now in
    let table = c.args.table.now in
    let names = c.contents-names.result.now in
    let k = c.loop-number.number in
    let low : k < entry_count table = omega arith in
    let one : kept c.take_entry.new.self ≡ taken c.args.size names c.args.local (kept c.loop-number.self) (entry file table k) =
    c.in_ok-take_entry.ensures.kept ∙ ap (taken c.args.size names c.args.local (kept c.loop-number.self)) c.entry_at.ensures in
    record {
      few = omega (arith, c.take_entry.ensures.few);
      fit = c.take_entry.ensures.fit;
      same = entries_more c.args.size c.args.local names (entry file table) k (entry_count table) (kept c.loop-number.self) _ low c.loop-number.invariant.same
          ∙ ap (λ (n : Named). fold (keep c.args.size) n (told_by c.args.local names (numbered (entry file table) (k + 1) (entry_count table - (k + 1))))) (sym one);
    }
