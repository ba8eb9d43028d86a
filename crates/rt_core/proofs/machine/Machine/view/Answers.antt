use Rattle.rt_core.proofs.Common.{◌≡◌, ◌∙◌, ◌<◌, List, length, get_or, subst, sym, ap, TaskState, MachineState, Program}
use Rattle.rt_core.specs.View.{TaskView, ViewFits}
use Rattle.rt_core.proofs.AloneLemmas.{program_alone}
use Rattle.rt_core.proofs.FitLemmas.{view_fits}
use Rattle.rt_core.proofs.machine.Machine.view.Goals as goal

pub returns-clause-fits : goal.returns-clause-fits
returns-clause-fits g c = λ set t ok stands.
    let s = c.in_ok-get.field-0.now in
    let tasks : c.deref.result.now ≡ c.args.self.now.tasks = c.deref.ensures.value ∙ ap (λ (m : MachineState). m.tasks) c.self.view_is in
    let below = subst (λ (xs : List TaskState). c.args.task < length xs) tasks c.in_ok-get.ensures.lookup.3.0 in
    let found = subst (λ (xs : List TaskState). s ≡ get_or xs c.args.task s) tasks (c.in_ok-get.ensures.lookup.3.1 s) in
    subst (ViewFits t) (sym c.view_of.ensures) (view_fits set t c.args.task c.args.self.now s ok stands below found)

pub returns-clause-alone : goal.returns-clause-alone
returns-clause-alone g c = λ set t s stands there.
    let x = c.in_ok-get.field-0.now in
    let tasks : c.deref.result.now ≡ c.args.self.now.tasks = c.deref.ensures.value ∙ ap (λ (m : MachineState). m.tasks) c.self.view_is in
    let below = subst (λ (xs : List TaskState). c.args.task < length xs) tasks c.in_ok-get.ensures.lookup.3.0 in
    let found = subst (λ (xs : List TaskState). x ≡ get_or xs c.args.task x) tasks (c.in_ok-get.ensures.lookup.3.1 x) in
    ap (λ (v : TaskView). v.state) c.view_of.ensures ∙ ap (λ (p : Program). p.state) (program_alone set t c.args.task c.args.self.now s x stands there below found)
