use Rattle.rt_asm.proofs.Common.{arith}
use Rattle.std.proofs.lemmas.List.Sorted.{IsPermutation-trans}
use Rattle.rt_asm.proofs.assembled.order_by_fronts.Goals as goal

pub loop-at-preserved : goal.loop-at-preserved
loop-at-preserved c = record {
  parts = omega (arith, c.loop-at.invariant.parts, c.loop-at-test.true);
  same = IsPermutation-trans _ _ _ c.loop-at.invariant.same c.sort_by_cached_key.ensures.permutation;
}
