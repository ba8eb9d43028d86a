use Rattle.rt_trace.proofs.Common.{refl, ap, state_at, task_text}
use Rattle.rt_history.specs.Program.{Program}
use Rattle.rt_laws.proofs.Isolation.{stands_as_alone}
use Rattle.rt_core.specs.View.{shown}
use Rattle.rt_trace.proofs.laws.tasks_are_told_as_alone.Goals as goal

pub returns : goal.returns
returns c = λ telling set t i s x asks there.
    ap (λ (p : Program). task_text telling i (record (shown x) { state = p.state }) p.output) (stands_as_alone (state_at set t) set t i s x refl asks there)
