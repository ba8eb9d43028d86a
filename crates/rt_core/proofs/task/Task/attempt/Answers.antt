use Rattle.rt_core.proofs.Common.{◌≡◌, refl, ap, ◌∙◌, Program, Told, attempt_at, after, TaskState, ran}
use Rattle.rt_history.specs.declared.record.AttemptOutcome.{AttemptOutcome}
use Rattle.rt_history.specs.Calls.{told}
use Rattle.rt_history.specs.Serving.{Serving}
use Rattle.rt_core.proofs.TaskLemmas.{attempt-told}
use Rattle.rt_core.proofs.task.Task.attempt.Goals as goal

pub returns-clause-runs : goal.returns-clause-runs
returns-clause-runs g c = λ granted.
    let s = c.args.self.now in
    let left = c.step-stepped.new.self in
    let new = c.other_attempt.new.self in
    let whole : told c.other_attempt.result.outcome new.program ≡ attempt_at c.args.t granted s.program =
    c.other_attempt.ensures.told granted ∙ attempt-told c.args.t granted s left c.step-stepped.result.outcome c.step-stepped.ensures.outcome c.step-stepped.ensures.state in
    let out : c.other_attempt.result.outcome ≡ (attempt_at c.args.t granted s.program).outcome = ap (λ (y : Told). y.outcome) whole in
    let pc : c.pc-pc.result ≡ s.program.state.pc = c.pc-pc.ensures.value ∙ ap (λ (y : TaskState). y.program.state.pc) c.self.view_is in
    let serving : new.serving ≡ after c.args.t (attempt_at c.args.t granted s.program).outcome s.serving.account =
    c.other_attempt.ensures.serving ∙ ap (λ (y : TaskState). after c.args.t c.other_attempt.result.outcome y.serving.account) c.step-stepped.ensures.state
    ∙ ap (λ (o : AttemptOutcome). after c.args.t o s.serving.account) out in
    let state : new ≡ ran c.args.t granted s =
    ap (λ (p : Program). record { program = p; serving = new.serving }) (ap (λ (y : Told). y.program) whole)
    ∙ ap (λ (v : Serving). record { program = (attempt_at c.args.t granted s.program).program; serving = v }) serving in
    (c.other_attempt.ensures.task ∙ rw (pc, c.step-stepped.ensures.word, out) refl, state)
