use Rattle.rt_asm.proofs.Common.{◌≡◌, take, map, Source}
use Rattle.rt_asm.proofs.faulty_lines.of_source.Given as goal

abbrev pub invariant-loop-flaw : goal.invariant-loop-flaw
invariant-loop-flaw l = l.told.items ≡ map (λ flaw. Source flaw.fault) (take l.flaw-index l.flaws)
