use Rattle.rt_elf.proofs.Common.{◌≡◌, ◌++◌, drop, take, Label, labels, put}
use Rattle.rt_elf.proofs.naming.naming.place_of.Given as goal

abbrev pub invariant-loop-symbol : goal.invariant-loop-symbol
invariant-loop-symbol l =
    (l.place ≡ l.symbol-index)
    × ((x : Label) → x.name ≡ l.name → put x (labels l.symbols) ≡ labels (take l.symbol-index l.symbols) ++ put x (labels (drop l.symbol-index l.symbols)))
