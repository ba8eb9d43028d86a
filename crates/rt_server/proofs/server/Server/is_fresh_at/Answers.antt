use Rattle.std.proofs.Common.{◌≡◌, ◌*◌, ◌-◌, refl, ap, ◌∙◌}
use Rattle.rt_server.specs.Arrival.{wakes_fresh}
use Rattle.rt_server.proofs.ArrivalLemmas.{owed-test}
use Rattle.rt_server.proofs.server.Server.is_fresh_at.Goals as goal

pub returns : goal.returns
returns c =
    let s = c.self.inside in
    let owed : c.from.result * c.from-2.result ≡ (s.d - c.args.t) * s.q = rw (c.from.ensures, c.from-2.ensures, c.saturating_sub.ensures) refl in
    owed-test (c.from.result * c.from-2.result) (c.from-3.result * c.from-4.result) s.d c.args.t s.q owed
    ∙ rw (c.from-3.ensures, c.from-4.ensures) (ap (wakes_fresh c.args.t) c.self.view_is)
