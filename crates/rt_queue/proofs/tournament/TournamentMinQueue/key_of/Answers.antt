use Rattle.rt_queue.proofs.Common.{◌∙◌, None, sym, arith, get_or_past, seat_at}
use Rattle.rt_queue.specs.Working.Games.{keys_from}
use Rattle.rt_queue.proofs.GameLemmas.{length-keys_from, key-there, key_in-absent, key_in-present}
use Rattle.rt_queue.proofs.tournament.TournamentMinQueue.key_of.Goals as goal

pub returns-then-number-self : goal.returns-then-number-self
returns-then-number-self c =
    let t = c.self.inside in
    let keys = keys_from (seat_at t.first t.seats.items) t.leaves t.capacity in
    rw (← c.self.view_is)
    (sym (get_or_past keys c.args.number None (omega (arith, length-keys_from (seat_at t.first t.seats.items) t.leaves t.capacity, c.if-number-self.true))))

pub returns-then-sitting : goal.returns-then-sitting
returns-then-sitting c =
    let t = c.self.inside in
    let x = c.who_sits-key.result in
    sym (key_in-absent x c.if-sitting.true)
    ∙ key-there (seat_at t.first t.seats.items) t.leaves t.capacity c.args.number c.args.self.now x c.self.view_is c.if-number-self.false
    (rw c.deref.ensures.value at c.who_sits-key.ensures)

pub returns : goal.returns
returns c =
    let t = c.self.inside in
    let x = c.who_sits-key.result in
    sym (key_in-present x c.if-sitting.false)
    ∙ key-there (seat_at t.first t.seats.items) t.leaves t.capacity c.args.number c.args.self.now x c.self.view_is c.if-number-self.false
    (rw c.deref.ensures.value at c.who_sits-key.ensures)
