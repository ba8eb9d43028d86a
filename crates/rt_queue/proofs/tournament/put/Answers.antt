use Rattle.rt_queue.proofs.Common.{◌≡◌, ℕ, set, get_or, ap, ◌∙◌, get_or-set_same}
use Rattle.std.proofs.lemmas.List.{set-set}
use Rattle.rt_queue.proofs.tournament.put.Goals as goal

pub returns : goal.returns
returns c =
    let seats = c.args.seats.now in
    let seat = c.args.seat in
    let half : ℕ × ℕ = (c.args.key, (get_or seats seat (0, 0)).1) in
    let same : get_or (set seats seat half) seat (0, 0) ≡ half = get_or-set_same seats seat half (0, 0) c.requires in
    ap (λ (entry : ℕ × ℕ). set (set seats seat half) seat (entry.0, c.args.number)) same ∙ set-set seats seat half (c.args.key, c.args.number)
