use Rattle.rt_walk.proofs.Common.{subst, ap, PositionState, IsReached}
use Rattle.circular_buffer.specs.Buffer.{Buffer}
use Rattle.rt_walk.proofs.GoingLemmas.{reached-on}
use Rattle.rt_walk.proofs.position.Position.advance.Goals as goal

pub returns-clause-reached : goal.returns-clause-reached
returns-clause-reached g c = λ first.
    subst (λ (old : PositionState). IsReached first old → IsReached first (record { machine = c.advance.new.self; ring = c.push.new.self; jobs = c.pass.new.self })) c.self.view_is
    (reached-on _ c.in_ok-entry.entry first (record { machine = c.self.inside.machine; ring = c.self.inside.ring; jobs = c.self.inside.jobs }) (record { machine = c.advance.new.self; ring = c.push.new.self; jobs = c.pass.new.self })
    c.in_ok-entry.ensures.goes c.in_ok-entry.ensures.legal c.pass.ensures (ap (λ (b : Buffer _). b.capacity) c.push.ensures.exact) c.push.ensures.follows)
