use Rattle.rt_core.proofs.Common.{◌≡◌, ◌<◌, map, Some, None, subst, IsLeast, MachineState, woken_task}
use Rattle.std.proofs.lemmas.Bool.{leb-false}
use Rattle.rt_core.proofs.MachineLemmas.{none_due-least, none_due-none}
use Rattle.rt_core.proofs.machine.Machine.is_wake_due.Goals as goal

pub returns-in-Some : goal.returns-in-Some
returns-in-Some g c = λ no.
    let least : IsLeast (g.Q.MinQueue.keys c.self.inside.timers) (Some (c.in-Some.w, c.in-Some.field-0-1)) = rw c.in-Some.is at c.least.ensures in
    let later : c.self.inside.clock < c.in-Some.w = leb-false c.in-Some.w c.self.inside.clock no in
    let P : MachineState → Type 0 = λ m. map (woken_task m.tick) m.tasks ≡ m.tasks in
    subst P c.self.view_is (none_due-least c.self.inside.clock (g.Q.MinQueue.keys c.self.inside.timers) c.self.inside.tasks.items (c.in-Some.w, c.in-Some.field-0-1) c.self.invariant.asleep least later)

pub returns-in-None : goal.returns-in-None
returns-in-None g c = λ _.
    let none : IsLeast (g.Q.MinQueue.keys c.self.inside.timers) None = rw c.in-None.is at c.least.ensures in
    let P : MachineState → Type 0 = λ m. map (woken_task m.tick) m.tasks ≡ m.tasks in
    subst P c.self.view_is (none_due-none c.self.inside.clock (g.Q.MinQueue.keys c.self.inside.timers) c.self.inside.tasks.items c.self.invariant.asleep none)
