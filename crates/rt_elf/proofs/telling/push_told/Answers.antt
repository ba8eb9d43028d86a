use Rattle.rt_elf.proofs.Common.{◌≡◌, ◌∙◌, ◌<◌, ◌+◌, ◌-◌, ◌++◌, sym, ap, subst, arith, ℕ, List, length, map, Option, Label, label, labels, Symbol, Entry, numbered, lacks_name, contents, names_of, entry, entries, entry_count, told_by}
use Rattle.std.specs.Option.{option_map}
use Rattle.std.specs.Global.{Vec}
use Rattle.std.proofs.lemmas.List.{append-nil}
use Rattle.rt_elf.specs.ToldSymbols.{shortened, told_at}
use Rattle.rt_elf.proofs.NameLemmas.{none_of}
use Rattle.rt_elf.proofs.TellingLemmas.{found, listed_more, one_behind}
use Rattle.rt_elf.proofs.telling.push_told.Goals as goal
use Rattle.rt_elf.proofs.telling.push_told.Goals.{in-Some+in_ok-push, in_default}

pub told_at-requires : goal.told_at-requires
told_at-requires c =
    let file = c.args.file.now in
    let table = c.args.table.now in
    let names_is : c.contents-names.result.now ≡ names_of file table = c.contents-names.ensures ∙ ap (contents file) c.section_header.ensures in
    let none = none_of (lacks_name (length (names_of file table))) (entry file table) 0 (entry_count table) c.loop-number.number c.requires.table.named (omega arith) (omega arith) in
    ap (λ (e : Entry). lacks_name (length c.contents-names.result.now) e) c.entry_at.ensures ∙ ap (λ (names : List ℕ). lacks_name (length names) (entry file table c.loop-number.number)) names_is ∙ none

pub loop-number-preserved : goal.loop-number-preserved
loop-number-preserved c =
    let file = c.args.file.now in
    let table = c.args.table.now in
    let names = c.contents-names.result.now in
    let k = c.loop-number.number in
    let low : k < entry_count table = omega arith in
    let all = labels c.args.symbols.now.items ++ map shortened (told_by c.args.local names (entries file table)) in
    let here : told_at c.args.local names (entry file table k) ≡ option_map label c.told_at.result = ap (told_at c.args.local names) (sym c.entry_at.ensures) ∙ c.told_at.ensures in
    let rest = map shortened (told_by c.args.local names (numbered (entry file table) (k + 1) (entry_count table - (k + 1)))) in
    let items = c.loop-number.symbols.items in
    let step : (labels c.loop-number.symbols.items ++ found (option_map label c.told_at.result)) ++ map shortened (told_by c.args.local names (numbered (entry file table) (k + 1) (entry_count table - (k + 1)))) ≡ all =
    listed_more c.args.local names (entry file table) k (entry_count table) (labels c.loop-number.symbols.items) all (option_map label c.told_at.result) low here c.loop-number.invariant in
    elim c.match-told_at.branch [
      | in-Some+in_ok-push w ↦
          let symbol = w.in-Some.symbol in
          ap (λ (v : Vec Symbol). labels v.items ++ rest) w.symbols-is
          ∙ ap (λ (ss : List Symbol). labels ss ++ rest) w.in_ok-push.ensures.items
          ∙ ap (λ (ls : List Label). ls ++ rest) (one_behind items symbol)
          ∙ subst (λ (o : Option Label). (labels items ++ found o) ++ rest ≡ all) (ap (option_map label) w.in-Some.is) step
      | in_default w ↦
          ap (λ (v : Vec Symbol). labels v.items ++ rest) w.symbols-is
          ∙ ap (λ (ls : List Label). ls ++ rest) (sym (append-nil (labels items)))
          ∙ subst (λ (o : Option Label). (labels items ++ found o) ++ rest ≡ all) (ap (option_map label) w.in_default.is) step
    ]
