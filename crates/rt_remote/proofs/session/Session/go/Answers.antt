use Rattle.rt_remote.proofs.Common.{List, Option, sym, subst, Action, RunsOn}
use Rattle.rt_packet.specs.declared.request.request.Request.{Request}
use Rattle.rt_remote.specs.Executes.{Executes}
use Rattle.rt_remote.proofs.session.Session.go.Goals as goal

pub returns-in-Continue-clause-executes : goal.returns-in-Continue-clause-executes
returns-in-Continue-clause-executes g c = λ fresh.
    let paused = g.P.Pace.has_paused c.run_on.new.pace in
    subst (λ (r : Request). Executes c.args.self.now r paused c.run_on.result c.run_on.new.self) (sym c.in-Continue.is)
    (subst (λ (l : List (Option Action)). RunsOn c.args.self.now l paused c.run_on.result c.run_on.new.self) c.continued.ensures (c.run_on.ensures.runs fresh))

pub returns-in-Step-clause-executes : goal.returns-in-Step-clause-executes
returns-in-Step-clause-executes g c = λ fresh.
    let paused = g.P.Pace.has_paused c.run_on-in-Step.new.pace in
    subst (λ (r : Request). Executes c.args.self.now r paused c.run_on-in-Step.result c.run_on-in-Step.new.self) (sym c.in-Step.is)
    (subst (λ (l : List (Option Action)). RunsOn c.args.self.now l paused c.run_on-in-Step.result c.run_on-in-Step.new.self) c.stepped_too.ensures (c.run_on-in-Step.ensures.runs fresh))
