use Rattle.rt_asm.proofs.Common.{sym, ◌∙◌}
use Rattle.rt_asm.proofs.LabelLemmas.{duplicate, added}
use Rattle.rt_asm.proofs.labels.Labels.add.Goals as goal

pub returns-then-is_some : goal.returns-then-is_some
returns-then-is_some c =
    duplicate c.args.address c.args.self.now c.self.inside.addresses.entries c.args.name.now c.in_ok-insert.field-0 c.self.view_is c.in_ok-insert.ensures.old (sym c.is_some.ensures ∙ c.if-is_some.true)

pub returns : goal.returns
returns c =
    added c.args.address c.args.self.now c.self.inside.addresses (record { text = c.args.name }) c.in_ok-insert.field-0 c.insert.new.self.entries c.self.view_is c.in_ok-insert.ensures.old c.in_ok-insert.ensures.entries (sym c.is_some.ensures ∙ c.if-is_some.false)
