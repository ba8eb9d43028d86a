use Rattle.rt_remote.proofs.Common.{inl, refl, sym, ap, subst, ◌∙◌, RemoteState, GoesBackTo}
use Rattle.rt_remote.specs.Runs.{BacksBy}
use Rattle.rt_image.specs.SystemFile.{set_tasks}
use Rattle.rt_names.specs.TaskNames.{names_from}
use Rattle.rt_remote.proofs.RunLemmas.{done-so, goes-so, goes-back-to, back-halted}
use Rattle.rt_remote.proofs.session.Session.back_to_stop.Goals as goal

pub returns-then-self-clause-runs : goal.returns-then-self-clause-runs
returns-then-self-clause-runs g c =
    back-halted c.args.self.now c.halt.new.self _ c.halt.result (sym (ap (λ (s : RemoteState). s.has_interrupt) c.self.view_is) ∙ c.if-self.true) c.args.actions.now _
    (sym c.are_any.ensures ∙ c.if-not-are_any.false) c.interrupted.ensures c.halt.ensures

pub returns-in-Ok-clause-runs : goal.returns-in-Ok-clause-runs
returns-in-Ok-clause-runs g c =
    let old : RemoteState = record { names = names_from 0 (set_tasks c.self.inside.tasks.now); walk = c.self.inside.walk; points = c.self.inside.points; selection = c.self.inside.selection; has_interrupt = c.self.inside.has_interrupt } in
    let mid : RemoteState = record { names = names_from 0 (set_tasks c.self.inside.tasks.now); walk = c.go_back.new.walk; points = c.self.inside.points; selection = c.self.inside.selection; has_interrupt = c.self.inside.has_interrupt } in
    let paused = g.P.Pace.has_paused c.go_back.new.pace in
    let goes : GoesBackTo old c.args.actions.now paused c.tell.result c.tell.new.self =
    goes-back-to old mid c.tell.new.self c.in-Ok.told c.tell.result c.in-Ok.ensures.walk refl refl refl refl c.args.actions.now paused _
    (record { actions_are = refl; points = refl; events = refl; shown = refl; passes = c.passes-passes.ensures; tick_stop = refl })
    c.in-Ok.ensures.back c.in-Ok.ensures.pauses c.tell.ensures.selection c.tell.ensures.said in
    subst (λ (s : RemoteState). BacksBy s c.args.actions.now paused c.tell.result c.tell.new.self) c.self.view_is (done-so _ _ _ _ _ (sym c.are_any.ensures ∙ c.if-not-are_any.false) (goes-so _ _ _ c.if-self.false (inl goes)))
