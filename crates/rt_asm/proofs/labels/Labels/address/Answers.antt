use Rattle.rt_asm.proofs.Common.{List, ap, ◌∙◌, Label, address_in}
use Rattle.rt_asm.proofs.LabelLemmas.{address_in_entries}
use Rattle.rt_asm.proofs.labels.Labels.address.Goals as goal

pub returns : goal.returns
returns c =
    c.copied.ensures ∙ c.get.ensures.value ∙ address_in_entries c.args.name.now c.self.inside.addresses.entries
    ∙ ap (λ (ls : List Label). address_in ls c.args.name.now) c.self.view_is
