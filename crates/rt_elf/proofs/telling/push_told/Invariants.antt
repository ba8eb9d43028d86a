use Rattle.rt_elf.proofs.Common.{◌≡◌, ◌-◌, ◌++◌, map, labels, numbered, entry, entries, entry_count, told_by}
use Rattle.rt_elf.specs.ToldSymbols.{shortened}
use Rattle.rt_elf.proofs.telling.push_told.Given as goal

-- the symbols so far go before those of the entries that are left
abbrev pub invariant-loop-number : goal.invariant-loop-number
invariant-loop-number l =
    labels l.symbols.items ++ map shortened (told_by l.local l.names (numbered (entry l.file l.table) l.number (entry_count l.table - l.number)))
    ≡ labels l.fn.symbols.items ++ map shortened (told_by l.local l.names (entries l.file l.table))
