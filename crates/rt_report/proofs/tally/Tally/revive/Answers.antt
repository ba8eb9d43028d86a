use Rattle.rt_report.proofs.Common.{◌+◌, ◌-◌, sym, subst, ap, ◌∙◌, plainly, HasRoom}
use Rattle.rt_report.proofs.PlainLaws.{room-begun, plain-begun}
use Rattle.rt_report.proofs.tally.Tally.revive.Goals as goal

pub go_on_plain-requires-clause-room : goal.go_on_plain-requires-clause-room
go_on_plain-requires-clause-room c =
    (subst (HasRoom (c.args.n - 1)) (sym c.go_on.ensures) (room-begun c.args.u c.args.n c.args.self.now c.requires.some c.requires.limit c.requires.sound)).deadline

pub go_on_plain-requires-clause-postponements : goal.go_on_plain-requires-clause-postponements
go_on_plain-requires-clause-postponements c =
    (subst (HasRoom (c.args.n - 1)) (sym c.go_on.ensures) (room-begun c.args.u c.args.n c.args.self.now c.requires.some c.requires.limit c.requires.sound)).postponements

pub returns : goal.returns
returns c =
    c.go_on_plain.ensures ∙ ap (plainly (c.args.u + 1) (c.args.n - 1)) c.go_on.ensures
    ∙ sym (plain-begun c.args.u c.args.n c.args.self.now c.requires.some c.requires.sound)
