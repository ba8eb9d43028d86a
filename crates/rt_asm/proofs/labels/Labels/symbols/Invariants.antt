use Rattle.rt_asm.proofs.Common.{◌≡◌, ◌++◌, labels}
use Rattle.rt_asm.specs.Working.LabelMap.{entry_labels}
use Rattle.rt_asm.proofs.labels.Labels.symbols.Given as goal

-- the symbols so far go before the entries that are left
abbrev pub invariant-loop-name : goal.invariant-loop-name
invariant-loop-name l = labels l.symbols.items ++ entry_labels l.name-iterator ≡ l.self
