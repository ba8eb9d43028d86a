use Rattle.rt_remote.proofs.stops.BackwardLemmas.{finds-of}
use Rattle.rt_remote.proofs.stops.backward.last_met.Goals as goal

pub returns-then-is_any-clause-looks : goal.returns-then-is_any-clause-looks
returns-then-is_any-clause-looks g c =
    finds-of c.new.result.way c.args.way (g.P.Pace.has_paused c.last_met.new.pace) c.args.back c.args.walk.now c.last_met.result c.new.ensures c.last_met.ensures.looks

pub returns-else-is_any-clause-looks : goal.returns-else-is_any-clause-looks
returns-else-is_any-clause-looks g c =
    finds-of c.new-else-is_any.result.way c.args.way (g.P.Pace.has_paused c.last_met-else-is_any.new.pace) c.args.back c.args.walk.now c.last_met-else-is_any.result c.new-else-is_any.ensures
    c.last_met-else-is_any.ensures.looks
