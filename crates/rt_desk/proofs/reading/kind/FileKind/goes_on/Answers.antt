use Rattle.rt_desk.proofs.Common.{sym, subst, ◌∙◌, IsEnough}
use Rattle.rt_desk.specs.declared.reading.kind.FileKind.{FileKind}
use Rattle.rt_desk.proofs.reading.kind.FileKind.goes_on.Goals as goal

pub returns-in-System : goal.returns-in-System
returns-in-System c ends =
    subst (λ (kind : FileKind). IsEnough kind c.args.bytes.now) (sym c.in-System.is) (c.may_be_system.ensures.system ends, c.may_be_system.ensures.set ends)

pub returns-else-not-exceeds_an_object : goal.returns-else-not-exceeds_an_object
returns-else-not-exceeds_an_object c ends =
    let system = c.may_be_system-else-not-exceeds_an_object.ensures in
    subst (λ (kind : FileKind). IsEnough kind c.args.bytes.now) (sym c.in-ObjectOrSystem.is)
    (sym c.exceeds_an_object-in-ObjectOrSystem.ensures ∙ c.if-not-exceeds_an_object.false, system.system ends, system.set ends)

pub returns-in-Set : goal.returns-in-Set
returns-in-Set c ends = subst (λ (kind : FileKind). IsEnough kind c.args.bytes.now) (sym c.in-Set.is) (c.may_be_set.ensures ends)
