use Rattle.rt_waves.proofs.Common.{ℕ, List, false, subst, arith, digits, Placed}
use Rattle.rt_waves.proofs.BinaryTables.{row-is}
use Rattle.rt_waves.proofs.binary.place_first.Goals as goal

pub overflow_sub-end : goal.overflow_sub-end
overflow_sub-end c = (row-is c.args.byte c.ranges.byte.fits).fits

pub place_front-requires-clause-long : goal.place_front-requires-clause-long
place_front-requires-clause-long c = (row-is c.args.byte c.ranges.byte.fits).long

pub place_front-requires-clause-count : goal.place_front-requires-clause-count
place_front-requires-clause-count c = (row-is c.args.byte c.ranges.byte.fits).few

placed : (c : goal.After-slice_known-2-1) → Placed c.args.bytes.now c.place_front.new.bytes c.args.at (digits 2 false c.args.byte) c.place_front.result
placed c =
    subst (λ (x : List ℕ). Placed c.args.bytes.now c.place_front.new.bytes c.args.at x c.place_front.result) (row-is c.args.byte c.ranges.byte.fits).first c.place_front.ensures

pub returns-clause-text : goal.returns-clause-text
returns-clause-text c = placed c

pub returns-clause-short : goal.returns-clause-short
returns-clause-short c = omega (arith, (placed c).moved, (row-is c.args.byte c.ranges.byte.fits).short)
