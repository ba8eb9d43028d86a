use Rattle.rt_walk.proofs.Common.{◌+◌, ℕ, sym, subst, max, back_at, LastBefore}
use Rattle.rt_walk.specs.Position.{stand_of}
use Rattle.rt_walk.proofs.walk.Walk.look_through.Goals as goal

pub returns-clause-last : goal.returns-clause-last
returns-clause-last g c = λ set is.
    let reached = c.run.ensures.reached c.args.self.now.first c.in_ok-place.ensures.reached in
    subst (λ (floor : ℕ). LastBefore (back_at (g.H.HaltBack.here c.args.halt) (g.H.HaltBack.left c.args.halt) (g.H.HaltBack.behind c.args.halt) c.args.way.passes (stand_of c.args.self.now.first) set floor c.args.way.now) (max c.args.way.low floor) (c.args.top + 1) c.last_met-last.result)
    (sym c.now-floor.ensures.value) (c.last_met-last.ensures.last (stand_of c.args.self.now.first) set (reached.at set is))
