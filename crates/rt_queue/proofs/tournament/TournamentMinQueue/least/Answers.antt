use Rattle.rt_queue.proofs.Common.{length, seat_at}
use Rattle.rt_queue.proofs.GameLemmas.{top-nobody, top-least}
use Rattle.rt_queue.proofs.tournament.TournamentMinQueue.least.Goals as goal

pub returns-then-self : goal.returns-then-self
returns-then-self c =
    let t = c.self.inside in
    rw (← c.self.view_is) (top-nobody (seat_at t.first t.seats.items) (length t.seats.items) t.leaves t.capacity c.self.invariant c.if-self.true)

pub returns : goal.returns
returns c =
    let t = c.self.inside in
    rw (← c.self.view_is) (top-least (seat_at t.first t.seats.items) (length t.seats.items) t.leaves t.capacity c.self.invariant c.if-self.false)
