use Rattle.rt_elf.proofs.Common.{◌≡◌, ◌++◌, labels, entry_labels}
use Rattle.rt_elf.proofs.flat.names.Names.in_order.Given as goal

-- the symbols so far go before the entries that are left
abbrev pub invariant-loop-name : goal.invariant-loop-name
invariant-loop-name l = labels l.symbols.items ++ entry_labels l.name-iterator ≡ entry_labels l.self.symbols.entries
