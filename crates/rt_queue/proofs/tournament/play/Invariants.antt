use Rattle.rt_queue.proofs.Common.{◌≡◌, ℕ, ◌*◌, ◌/◌, ◌<◌, ◌≤◌, length, seat_at, played_at}
use Rattle.std.proofs.Common.{◌^◌}
use Rattle.rt_queue.specs.Working.Games.{AreWon, AreWonBut}
use Rattle.rt_queue.proofs.tournament.play.Given as goal

-- with the winner at the seat that is come to, the games below are played
abbrev pub invariant-loop-seat : goal.invariant-loop-seat
invariant-loop-seat l = record {
  some : 0 < l.seat;
  number : l.winner.1 < 2 ^ 32;
  within : l.seat ≤ l.from;
  count : length l.seats ≡ length l.initial.seats;
  seated : (first : ℕ × ℕ) (other : ℕ) → length l.initial.seats ≤ 2 * other → other < length l.initial.seats →
      played_at l.seat l.winner (seat_at first l.seats) other ≡ played_at l.from l.fn.entry (seat_at first l.initial.seats) other;
  won : (first : ℕ × ℕ) → AreWon (seat_at first l.initial.seats) (length l.initial.seats / 2) →
      AreWonBut (played_at l.seat l.winner (seat_at first l.seats)) (length l.initial.seats / 2) (l.seat / 2);
}

abbrev pub decreases-loop-seat : goal.decreases-loop-seat
decreases-loop-seat l = l.seat
