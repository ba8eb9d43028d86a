use Rattle.rt_queue.proofs.Common.{◌≡◌, ℕ, ◌*◌, replicate, arith, common_steps, seat_at}
use Rattle.rt_queue.specs.Working.Games.{nobody}
use Rattle.rt_queue.proofs.GameLemmas.{keys-none, nobody-sits}
use Rattle.rt_queue.proofs.tournament.TournamentMinQueue.make.Goals as goal

pub returns : goal.returns
returns c =
    let leaves : ℕ = c.max-leaves.result in
    let is : c.in_ok-seats.seats.items ≡ replicate (2 * leaves) nobody = grind (arith, common_steps, c.in_ok-seats.ensures.items) in
    keys-none (seat_at nobody c.in_ok-seats.seats.items) leaves c.args.capacity
    (λ seat low high. nobody-sits c.in_ok-seats.seats.items (2 * leaves) seat is (omega (arith, high, c.max-leaves.ensures)))
