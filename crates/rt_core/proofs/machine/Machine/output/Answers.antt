use Rattle.rt_core.proofs.Common.{◌≡◌, ◌∙◌, ◌<◌, List, length, get_or, subst, ap, Program, TaskState, MachineState}
use Rattle.rt_core.proofs.AloneLemmas.{program_alone}
use Rattle.rt_core.proofs.machine.Machine.output.Goals as goal

pub returns-clause-alone : goal.returns-clause-alone
returns-clause-alone g c = λ set t s stands there.
    let x = c.in_ok-get.field-0.now in
    let tasks : c.deref.result.now ≡ c.args.self.now.tasks = c.deref.ensures.value ∙ ap (λ (m : MachineState). m.tasks) c.self.view_is in
    let below = subst (λ (xs : List TaskState). c.args.task < length xs) tasks c.in_ok-get.ensures.lookup.3.0 in
    let found = subst (λ (xs : List TaskState). x ≡ get_or xs c.args.task x) tasks (c.in_ok-get.ensures.lookup.3.1 x) in
    c.output.ensures.bytes ∙ ap (λ (p : Program). p.output) (program_alone set t c.args.task c.args.self.now s x stands there below found)
