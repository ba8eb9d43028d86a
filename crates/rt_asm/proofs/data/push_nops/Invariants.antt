use Rattle.rt_asm.proofs.Common.{◌≡◌, ◌++◌, little_bytes}
use Rattle.std.specs.Prelude.{replicate}
use Rattle.std.specs.List.{flat_map}
use Rattle.rt_asm.proofs.data.push_nops.Given as goal

-- a word for each turn
abbrev pub invariant-loop : goal.invariant-loop
invariant-loop l = l.out.items ≡ l.initial.out.items ++ flat_map (little_bytes 4) (replicate l.counter 0x13)
