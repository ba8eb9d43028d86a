use Rattle.std.proofs.Common.{leb, ap, ◌-◌, ◌+◌, ℕ, ◌∙◌, None, arith}
use Rattle.rt_admit.proofs.ReservationLemmas.{granted-by}
use Rattle.rt_admit.proofs.reservation.trial.Goals as goal

pub returns : goal.returns
returns c =
    ap (λ (n : ℕ). leb (c.held_sum.result - c.held.result + c.held-2.result) n) c.from.ensures
    ∙ granted-by c.args.hyper c.args.tasks.now c.args.i c.args.q (record { budget = 0; pending = None; period = 0 }) c.held_sum.result c.held.result c.held-2.result c.requires.within
    c.if-q-eq0.false (omega (arith, c.if-q-task.false)) c.held_sum.ensures.value c.held.ensures.value c.held-2.ensures.value
