use Rattle.rt_remote.proofs.Common.{refl, sym, ap, subst, ◌∙◌, RemoteState, RunsOn, GoesTo}
use Rattle.rt_image.specs.SystemFile.{set_tasks}
use Rattle.rt_names.specs.TaskNames.{names_from}
use Rattle.rt_remote.proofs.RunLemmas.{done-so, goes-so, goes-to, on-halted}
use Rattle.rt_remote.proofs.session.Session.run_on.Goals as goal

pub returns-then-self-clause-runs : goal.returns-then-self-clause-runs
returns-then-self-clause-runs g c = λ fresh.
    on-halted c.args.self.now c.halt.new.self _ c.halt.result (sym (ap (λ (s : RemoteState). s.has_interrupt) c.self.view_is) ∙ c.if-self.true) c.args.actions.now _
    (sym c.are_any.ensures ∙ c.if-not-are_any.false) c.interrupted.ensures c.halt.ensures

pub returns-clause-runs : goal.returns-clause-runs
returns-clause-runs g c = λ fresh.
    let old : RemoteState = record { names = names_from 0 (set_tasks c.self.inside.tasks.now); walk = c.self.inside.walk; points = c.self.inside.points; selection = c.self.inside.selection; has_interrupt = c.self.inside.has_interrupt } in
    let mid : RemoteState = record { names = names_from 0 (set_tasks c.self.inside.tasks.now); walk = c.go_on-told.new.walk; points = c.self.inside.points; selection = c.self.inside.selection; has_interrupt = c.self.inside.has_interrupt } in
    let paused = g.P.Pace.has_paused c.go_on-told.new.pace in
    let goes : GoesTo old c.args.actions.now paused c.tell.result c.tell.new.self =
    goes-to old mid c.tell.new.self c.go_on-told.result c.tell.result c.go_on-told.ensures.walk refl refl refl refl c.args.actions.now paused _
    (record { actions_are = refl; points = refl; events = refl; shown = refl; told = refl; passes = c.passes-passes.ensures; tick_stop = refl })
    c.go_on-told.ensures.goes_on (c.go_on-told.ensures.pauses fresh) c.tell.ensures.selection c.tell.ensures.said in
    subst (λ (s : RemoteState). RunsOn s c.args.actions.now paused c.tell.result c.tell.new.self) c.self.view_is (done-so _ _ _ _ _ (sym c.are_any.ensures ∙ c.if-not-are_any.false) (goes-so _ _ _ c.if-self.false goes))
