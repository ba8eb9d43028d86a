use Rattle.rt_asm.proofs.Common.{◌≡◌, ◌%◌}
use Rattle.std.proofs.Common.{IsPermutation}
use Rattle.rt_asm.proofs.assembled.order_by_fronts.Given as goal

abbrev pub invariant-loop-at : goal.invariant-loop-at
invariant-loop-at l = record {
  parts : l.at % 8 ≡ 0;
  same : IsPermutation l.fn.symbols.items l.symbols.items;
}

abbrev pub decreases-loop-at : goal.decreases-loop-at
decreases-loop-at l = l.at
