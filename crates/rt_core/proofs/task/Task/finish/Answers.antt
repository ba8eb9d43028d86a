use Rattle.rt_core.proofs.Common.{◌≡◌, ℕ, Bool, true, false, sym, ap, ◌∙◌, Told}
use Rattle.rt_history.proofs.Granting.{told_at-granted, takeable-of}
use Rattle.rt_core.proofs.task.Task.finish.Goals as goal

pub take-requires-2-clause-takeable : goal.take-requires-2-clause-takeable
take-requires-2-clause-takeable g c =
    let none : ℕ → Bool = λ _. false in
    takeable-of c.carry_out-outcome.result _ (λ q is.
    let told : false ≡ true =
    told_at-granted c.args.t none c.args.outcome _ q (sym (ap (λ (y : Told). y.outcome) (c.carry_out-outcome.ensures.told none)) ∙ is) in
    absurd cc)
