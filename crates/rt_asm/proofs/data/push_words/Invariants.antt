use Rattle.rt_asm.proofs.Common.{◌≡◌, ◌++◌, drop, mapped}
use Rattle.rt_asm.specs.Data.{each_item, word_item}
use Rattle.rt_asm.proofs.data.push_words.Given as goal

-- the bytes so far go before those of the items that are left
abbrev pub invariant-loop-target : goal.invariant-loop-target
invariant-loop-target l =
    mapped (λ bytes. l.initial.out.items ++ bytes) (each_item (word_item l.labels) l.targets)
    ≡ mapped (λ bytes. l.out.items ++ bytes) (each_item (word_item l.labels) (drop l.target-index l.targets))
