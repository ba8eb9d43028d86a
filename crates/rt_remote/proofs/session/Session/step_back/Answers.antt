use Rattle.rt_remote.proofs.Common.{◌≡◌, true, inl, refl, sym, ap, subst, ◌∙◌, RemoteState, is_listed, GoesOneBack}
use Rattle.rt_remote.specs.Chosen.{stepped}
use Rattle.rt_remote.specs.Runs.{StepsOneBack}
use Rattle.rt_image.specs.SystemFile.{set_tasks}
use Rattle.rt_names.specs.TaskNames.{names_from}
use Rattle.rt_remote.proofs.RunLemmas.{done-so, goes-so, goes-one-back, one-halted}
use Rattle.rt_remote.proofs.session.Session.step_back.Goals as goal

pub returns-then-self : goal.returns-then-self
returns-then-self g c =
    let listed : is_listed c.args.self.now (stepped c.args.self.now) ≡ true =
    ap (is_listed c.args.self.now) (sym (c.stepped-task.ensures ∙ ap stepped c.self.view_is)) ∙ sym c.is_listed.ensures ∙ c.if-not-is_listed.false in
    one-halted c.args.self.now c.halt.new.self _ c.halt.result (sym (ap (λ (s : RemoteState). s.has_interrupt) c.self.view_is) ∙ c.if-self.true)
    listed refl (c.stepped-task.ensures ∙ ap stepped c.self.view_is) c.halt.ensures

pub returns-in-Ok : goal.returns-in-Ok
returns-in-Ok g c =
    let old : RemoteState = record { names = names_from 0 (set_tasks c.self.inside.tasks.now); walk = c.self.inside.walk; points = c.self.inside.points; selection = c.self.inside.selection; has_interrupt = c.self.inside.has_interrupt } in
    let mid : RemoteState = record { names = names_from 0 (set_tasks c.self.inside.tasks.now); walk = c.step_back.new.walk; points = c.self.inside.points; selection = c.self.inside.selection; has_interrupt = c.self.inside.has_interrupt } in
    let goes : GoesOneBack old c.tell.result c.tell.new.self =
    goes-one-back old mid c.tell.new.self c.in-Ok.told c.tell.result c.in-Ok.ensures.walk refl refl refl refl _
    (record { task = c.stepped-task.ensures; points = refl; passes = c.passes.ensures })
    c.in-Ok.ensures.back c.tell.ensures.selection c.tell.ensures.said in
    let listed : is_listed old (stepped old) ≡ true =
    ap (is_listed old) (sym c.stepped-task.ensures) ∙ ap (λ (s : RemoteState). is_listed s c.stepped-task.result) c.self.view_is ∙ sym c.is_listed.ensures ∙ c.if-not-is_listed.false in
    subst (λ (s : RemoteState). StepsOneBack s c.tell.result c.tell.new.self) c.self.view_is (done-so _ _ _ _ _ listed (goes-so _ _ _ c.if-self.false (inl goes)))
