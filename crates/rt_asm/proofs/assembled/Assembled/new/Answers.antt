use Rattle.rt_asm.proofs.Common.{◌≡◌, ◌∙◌, sym, subst, List, Some, Label, address_in}
use Rattle.std.proofs.Common.{codes}
use Rattle.rt_asm.specs.Working.Objects.{IsComplete}
use Rattle.rt_asm.proofs.assembled.Assembled.new.Goals as goal

pub invariant_of-result : goal.invariant_of-result
invariant_of-result c =
    let start : address_in c.args.labels.now (codes "_start") ≡ Some c.in-Some.entry = sym c.address.ensures ∙ c.in-Some.is in
    subst (λ (ls : List Label). IsComplete (record { entry = c.in-Some.entry; bytes = c.args.bytes.items; labels = ls })) (sym c.in_ok-labels.ensures) (c.requires c.in-Some.entry start)
