use Rattle.rt_queue.proofs.Common.{length, arith, seat_at}
use Rattle.std.proofs.Common.{rules}
use Rattle.std.proofs.lemmas.List.{with_items_is, places}
use Rattle.rt_queue.proofs.GameLemmas.{below-capacity, reseated}
use Rattle.rt_queue.proofs.tournament.Tournament.seat.Goals as goal

pub play-self-inside-requires-clause-within : goal.play-self-inside-requires-clause-within
play-self-inside-requires-clause-within c =
    let t = c.self.inside in
    let below = below-capacity (seat_at t.first t.seats.items) t.leaves t.capacity c.args.number c.args.self.now c.self.view_is c.requires.below in
    rw c.deref_mut.ensures.value (omega (arith, below, c.self.invariant.room, c.self.invariant.double))

pub returns-clause-few : goal.returns-clause-few
returns-clause-few c =
    let t = c.self.inside in
    let below = below-capacity (seat_at t.first t.seats.items) t.leaves t.capacity c.args.number c.args.self.now c.self.view_is c.requires.below in
    omega (arith, below, c.self.invariant.room, c.self.invariant.few)

pub invariant_of-self : goal.invariant_of-self
invariant_of-self c =
    let t = c.self.inside in
    let new = c.play-self-inside.new.seats in
    let played = rw c.deref_mut.ensures.value at c.play-self-inside.ensures in
    rw (with_items_is t.seats new (search (rules, places)))
    (reseated (seat_at t.first t.seats.items) (seat_at c.play-self-inside.result new) (length t.seats.items) (length new) t.leaves t.capacity c.args.number
    c.args.self.now c.args.entry c.self.invariant c.self.view_is played.length c.requires.below c.requires.entrant (played.seated t.first) (played.won t.first)).tournament

pub returns-clause-set : goal.returns-clause-set
returns-clause-set c =
    let t = c.self.inside in
    let new = c.play-self-inside.new.seats in
    let played = rw c.deref_mut.ensures.value at c.play-self-inside.ensures in
    rw (with_items_is t.seats new (search (rules, places)))
    (reseated (seat_at t.first t.seats.items) (seat_at c.play-self-inside.result new) (length t.seats.items) (length new) t.leaves t.capacity c.args.number
    c.args.self.now c.args.entry c.self.invariant c.self.view_is played.length c.requires.below c.requires.entrant (played.seated t.first) (played.won t.first)).keys
