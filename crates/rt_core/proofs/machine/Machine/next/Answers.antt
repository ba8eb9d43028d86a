use Rattle.rt_core.proofs.Common.{◌≡◌, ◌<◌, Some, get_or, map, sym, ap, subst, ◌∙◌, arith, tick_limit, IsLeast, deadline, MachineState}
use Rattle.rt_core.specs.declared.view.Next.TheVariants.{Run}
use Rattle.rt_core.proofs.MachineLemmas.{IsTask, below_of}
use Rattle.rt_core.proofs.GoingLemmas.{next_is, next_is_idle}
use Rattle.rt_core.proofs.machine.Machine.next.Goals as goal

pub returns-in-Some : goal.returns-in-Some
returns-in-Some g c =
    let m = c.args.self.now in
    let x = c.index.result.now in
    let task = c.in-Some.task in
    let least : IsLeast (map deadline m.tasks) (Some (c.in-Some.field-0-0, task)) = rw c.in-Some.is at c.named.ensures in
    let P : MachineState → Type 0 = λ m. x ≡ get_or m.tasks task x in
    let at : IsTask m.tasks task x = record { below = below_of deadline m.tasks task c.in-Some.field-0-0 least.0; here = subst P c.self.view_is c.index.ensures } in
    let now : c.self.inside.clock ≡ m.tick = ap (λ (m : MachineState). m.tick) c.self.view_is in
    let early : m.tick < tick_limit = omega arith in
    ap (Run task) (c.pc.ensures.value ∙ c.hart.ensures.pc) ∙ sym (next_is m (c.in-Some.field-0-0, task) x at least early)

pub returns-in-None : goal.returns-in-None
returns-in-None g c = sym (next_is_idle c.args.self.now (rw c.in-None.is at c.named.ensures))
