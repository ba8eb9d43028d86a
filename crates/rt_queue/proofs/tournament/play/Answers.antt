use Rattle.rt_queue.proofs.Common.{◌≡◌, ◌⊎◌, ℕ, ◌/◌, ◌<◌, ◌∙◌, length, set, get_or, refl, arith, length-set, NotAfter, played_at, seat_at}
use Rattle.std.proofs.Common.{bit_xor}
use Rattle.rt_queue.proofs.GameLemmas.{won-higher, won-played, play-goes-on, decided}
use Rattle.rt_queue.proofs.tournament.play.Goals as goal

pub loop-seat-preserved : goal.loop-seat-preserved
loop-seat-preserved c =
    let l = c.loop-seat in
    let new = set l.seats l.seat l.winner in
    let rival : ℕ × ℕ = get_or new (bit_xor l.seat 1) (0, 0) in
    let next : ℕ × ℕ = c.first_of-winner.result in
    let one : ((next ≡ l.winner) × NotAfter l.winner rival) ⊎ ((next ≡ rival) × NotAfter rival l.winner) = rw c.put.ensures at c.first_of-winner.ensures.first in
    let low : 1 < l.seat = c.loop-seat-test.true in
    let high : l.seat < length l.seats = omega (arith, l.invariant.within, c.requires.within, l.invariant.count) in
    rw c.put.ensures (record {
      some = omega (arith, low);
      number = c.first_of-winner.ensures.few;
      within = omega (arith, l.invariant.within);
      count = length-set l.seats l.seat l.winner ∙ l.invariant.count;
      seated = λ first other bottom below.
          play-goes-on first l.seats l.seat l.winner next low high other (λ h. absurd (omega (arith, h, bottom, high, l.invariant.count)))
          ∙ l.invariant.seated first other bottom below;
      won = λ first won.
          won-higher (played_at l.seat l.winner (seat_at first l.seats)) (played_at (l.seat / 2) next (seat_at first new)) (length c.args.seats.now / 2) l.seat
          (λ other apart. play-goes-on first l.seats l.seat l.winner next low high other apart)
          (decided first l.seats l.seat l.winner rival next low high refl one)
          (l.invariant.won first won);
    })

pub returns-clause-won : goal.returns-clause-won
returns-clause-won c = λ first won.
    won-played first c.loop-seat.winner c.loop-seat.seats (length c.args.seats.now / 2) c.loop-seat.seat (omega arith) (c.loop-seat.invariant.won first won)
