use Rattle.rt_perform.proofs.Common.{ℕ, List, Result, sym, subst, Answers, ProgramFault}
use Rattle.rt_perform.specs.Working.SessionResult.{session_result}
use Rattle.rt_perform.proofs.SessionLemmas.{answers}
use Rattle.rt_perform.proofs.performing.serve_system.Goals as goal

pub returns : goal.returns
returns g c known read none =
    let system = c.args.system.now in
    let sink = c.serve.new.out.inner in
    subst (λ (ended : Result ℕ ProgramFault). Answers g.S.Sink.seen system.first.items c.args.admission known system.left_out ended sink) (sym c.session_result.ensures)
    (subst (λ (bytes : List ℕ). Answers g.S.Sink.seen bytes c.args.admission known system.left_out (session_result system.left_out c.serve.result) sink) c.deref.ensures.value
    (answers g.S.Sink.seen c.deref.result.now c.args.admission known system.left_out sink c.serve.result (c.serve.ensures.session known read none)))
