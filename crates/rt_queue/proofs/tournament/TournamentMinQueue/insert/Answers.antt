use Rattle.rt_queue.proofs.Common.{◌∙◌, set, Option, ℕ, ap, arith}
use Rattle.rt_queue.proofs.GameLemmas.{key_in-present}
use Rattle.rt_queue.proofs.tournament.TournamentMinQueue.insert.Goals as goal

pub returns : goal.returns
returns c =
    c.seat.ensures.set
    ∙ ap (λ (key : Option ℕ). set c.args.self.now c.args.number key)
    (key_in-present (c.args.key, c.args.number) (λ h. absurd (omega (arith, h, c.seat.ensures.few))))
