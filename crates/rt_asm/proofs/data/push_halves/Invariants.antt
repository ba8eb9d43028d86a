use Rattle.rt_asm.proofs.Common.{◌≡◌, ◌++◌, drop, mapped}
use Rattle.rt_asm.specs.Data.{each_item, half_item}
use Rattle.rt_asm.proofs.data.push_halves.Given as goal

-- the bytes so far go before those of the items that are left
abbrev pub invariant-loop-number : goal.invariant-loop-number
invariant-loop-number l =
    mapped (λ bytes. l.initial.out.items ++ bytes) (each_item half_item l.numbers)
    ≡ mapped (λ bytes. l.out.items ++ bytes) (each_item half_item (drop l.number-index l.numbers))
