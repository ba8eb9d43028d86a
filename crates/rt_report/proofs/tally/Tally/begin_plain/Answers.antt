use Rattle.rt_report.proofs.Common.{◌≡◌, sym, subst, ap, ◌∙◌, TaskReport, plainly, HasRoom}
use Rattle.rt_history.specs.declared.mode.Mode.TheVariants.{Asleep}
use Rattle.rt_report.proofs.WakingLaws.{room-woken, plain-woken}
use Rattle.rt_report.proofs.tally.Tally.begin_plain.Goals as goal

-- the wake leaves room for the ticks behind it
has_room : (c : goal.After-go_on_plain-arg-1) → HasRoom c.args.n c.wake_due.new.self
has_room c =
    let asleep : c.args.self.now.serving.mode ≡ Asleep c.in-Asleep.w = ap (λ (x : TaskReport). x.serving.mode) (sym c.self.view_is) ∙ sym c.mode.ensures ∙ c.in-Asleep.is in
    subst (HasRoom c.args.n) (sym c.wake_due.ensures)
    (room-woken c.args.u c.args.n c.in-Asleep.w c.args.self.now asleep c.if-w-u.true c.requires.some c.requires.limit c.requires.sound)

pub go_on_plain-requires-clause-room : goal.go_on_plain-requires-clause-room
go_on_plain-requires-clause-room c = (has_room c).deadline

pub go_on_plain-requires-clause-postponements : goal.go_on_plain-requires-clause-postponements
go_on_plain-requires-clause-postponements c = (has_room c).postponements

pub returns-in-Asleep : goal.returns-in-Asleep
returns-in-Asleep c =
    let asleep : c.args.self.now.serving.mode ≡ Asleep c.in-Asleep.w = ap (λ (x : TaskReport). x.serving.mode) (sym c.self.view_is) ∙ sym c.mode.ensures ∙ c.in-Asleep.is in
    c.go_on_plain.ensures ∙ ap (plainly c.args.u c.args.n) c.wake_due.ensures
    ∙ sym (plain-woken c.args.u c.args.n c.in-Asleep.w c.args.self.now asleep c.if-w-u.true c.requires.some c.requires.sound)
