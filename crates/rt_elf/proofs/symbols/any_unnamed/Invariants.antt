use Rattle.rt_elf.proofs.Common.{◌≡◌, ◌-◌, list_any, numbered, entry, entries, entry_count, lacks_name}
use Rattle.rt_elf.proofs.symbols.any_unnamed.Given as goal

-- one of the entries that are left
abbrev pub invariant-loop-number : goal.invariant-loop-number
invariant-loop-number l = list_any (lacks_name l.len) (entries l.file l.table) ≡ list_any (lacks_name l.len) (numbered (entry l.file l.table) l.number (entry_count l.table - l.number))
