use Rattle.rt_waves.proofs.Common.{ℕ, List, subst, Placed}
use Rattle.rt_waves.proofs.BinaryTables.{row-is}
use Rattle.rt_waves.proofs.binary.place_eight.Goals as goal

pub returns-clause-text : goal.returns-clause-text
returns-clause-text c =
    subst (λ (x : List ℕ). Placed c.args.bytes.now c.place_front.new.bytes c.args.at x c.place_front.result) (row-is c.args.byte c.ranges.byte.fits).eight c.place_front.ensures
