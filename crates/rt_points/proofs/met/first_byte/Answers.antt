use Rattle.std.proofs.Common.{sym, ◌∙◌}
use Rattle.rt_points.specs.Met.{covers}
use Rattle.rt_points.proofs.MetLemmas.{byte_passed}
use Rattle.rt_points.proofs.met.first_byte.Goals as goal

pub loop-place-preserved : goal.loop-place-preserved
loop-place-preserved c =
    c.loop-place.invariant ∙ byte_passed (covers c.args.point.now) c.args.access.address c.loop-place.place c.args.access.bytes c.loop-place-test.true (sym c.if-covers.ensures)
