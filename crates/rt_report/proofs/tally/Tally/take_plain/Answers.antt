use Rattle.rt_report.proofs.Common.{◌≡◌, sym, ap, ◌∙◌, Active, TaskReport}
use Rattle.rt_report.proofs.PlainLaws.{room_for, plain-active}
use Rattle.rt_report.proofs.tally.Tally.take_plain.Goals as goal

pub go_on_plain-requires-clause-postponements : goal.go_on_plain-requires-clause-postponements
go_on_plain-requires-clause-postponements c =
    let active : c.args.self.now.serving.mode ≡ Active = ap (λ (x : TaskReport). x.serving.mode) (sym c.self.view_is) ∙ sym c.mode.ensures ∙ c.in-Active.is in
    (room_for c.args.u c.args.n c.args.self.now active c.requires.limit c.requires.sound).postponements

pub returns-in-Active : goal.returns-in-Active
returns-in-Active c =
    let active : c.args.self.now.serving.mode ≡ Active = ap (λ (x : TaskReport). x.serving.mode) (sym c.self.view_is) ∙ sym c.mode.ensures ∙ c.in-Active.is in
    c.go_on_plain.ensures ∙ sym (plain-active c.args.u c.args.n c.args.self.now active c.requires.sound)
