-- That budgets fit, as a machine shows it.
use Rattle.rt_core.proofs.Common.{◌≡◌, ℕ, ◌<◌, length, get_or, sym, ap, subst, ◌∙◌, TaskSet, TaskState, MachineState, state_at}
use Rattle.rt_history.specs.Admitted.{IsAdmittedSet}
use Rattle.rt_history.specs.Fit.{TaskFits}
use Rattle.rt_history.proofs.Steps.{tick_is}
use Rattle.rt_core.specs.View.{ViewFits, shown}
use Rattle.rt_laws.proofs.Fitting.{fits_at}

-- what is shown of one of its tasks
pub view_fits : (set : TaskSet) (t i : ℕ) (m : MachineState) (s : TaskState) → IsAdmittedSet set → m ≡ state_at set t → i < length m.tasks → s ≡ get_or m.tasks i s → ViewFits t (shown s)
view_fits set t i m s ok stands below found =
    let at : m.tick ≡ t = ap (λ (n : MachineState). n.tick) stands ∙ tick_is set t in
    rw (← at) (subst (TaskFits m.tick) (sym found) (fits_at set t m ok stands i s below))
