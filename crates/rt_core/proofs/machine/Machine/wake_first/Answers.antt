use Rattle.rt_core.proofs.Common.{◌≡◌, ◌<◌, ◌≤◌, ℕ, List, Option, map, slice_set, Some, None, refl, sym, ap, subst, ◌∙◌, arith, key_at, IsLeast, deadline, MachineState, woken_task, wake_at, awake, count_some}
use Rattle.rt_core.proofs.MachineLemmas.{IsTask, below_of, sleeper_is, tied-awake, map-awake, fewer_asleep, none_due-least, none_due-none}
use Rattle.rt_core.proofs.TaskLemmas.{wake_in-some}
use Rattle.rt_core.proofs.machine.Machine.wake_first.Goals as goal

pub wake-requires-clause-asleep : goal.wake-requires-clause-asleep
wake-requires-clause-asleep g c =
    let xs = c.self.inside.tasks.items in
    let x = c.index_mut-task.result.now in
    let least : IsLeast (g.Q.MinQueue.keys c.self.inside.timers) (Some (c.in-Some.w, c.in-Some.number)) = rw c.in-Some.is at c.least.ensures in
    let there : key_at (map wake_at xs) c.in-Some.number ≡ Some c.in-Some.w = ap (λ (keys : List (Option ℕ)). key_at keys c.in-Some.number) (sym c.self.invariant.asleep) ∙ least.0 in
    let at : IsTask xs c.in-Some.number x = record { below = below_of wake_at xs c.in-Some.number c.in-Some.w there; here = c.index_mut-task.ensures.value } in
    wake_in-some x.serving.mode c.in-Some.w (sleeper_is c.self.inside.clock xs (c.in-Some.w, c.in-Some.number) x at there).asleep

pub invariant_of-self : goal.invariant_of-self
invariant_of-self g c =
    let xs = c.self.inside.tasks.items in
    let x = c.index_mut-task.result.now in
    let t = c.self.inside.clock in
    let least : IsLeast (g.Q.MinQueue.keys c.self.inside.timers) (Some (c.in-Some.w, c.in-Some.number)) = rw c.in-Some.is at c.least.ensures in
    let there : key_at (map wake_at xs) c.in-Some.number ≡ Some c.in-Some.w = ap (λ (keys : List (Option ℕ)). key_at keys c.in-Some.number) (sym c.self.invariant.asleep) ∙ least.0 in
    let at : IsTask xs c.in-Some.number x = record { below = below_of wake_at xs c.in-Some.number c.in-Some.w there; here = c.index_mut-task.ensures.value } in
    let come : c.in-Some.w ≤ t = omega arith in
    let ready : (g.Q.MinQueue.keys c.insert.new.self) ≡ slice_set (g.Q.MinQueue.keys c.self.inside.ready) c.in-Some.number (deadline (awake c.in-Some.w x)) =
    c.insert.ensures ∙ rw (c.deadline-deadline.ensures, c.wake.ensures) refl in
    let asleep : (g.Q.MinQueue.keys c.remove.new.self) ≡ slice_set (g.Q.MinQueue.keys c.self.inside.timers) c.in-Some.number None = c.remove.ensures in
    rw c.wake.ensures
    (tied-awake (g.Q.MinQueue.keys c.self.inside.ready) (g.Q.MinQueue.keys c.self.inside.timers) (g.Q.MinQueue.keys c.insert.new.self) (g.Q.MinQueue.keys c.remove.new.self) c.self.inside.hyper t xs c.in-Some.number c.in-Some.w x c.self.invariant at come ready asleep)

pub returns-in-Some-clause-same : goal.returns-in-Some-clause-same
returns-in-Some-clause-same g c =
    let xs = c.self.inside.tasks.items in
    let x = c.index_mut-task.result.now in
    let t = c.self.inside.clock in
    let least : IsLeast (g.Q.MinQueue.keys c.self.inside.timers) (Some (c.in-Some.w, c.in-Some.number)) = rw c.in-Some.is at c.least.ensures in
    let there : key_at (map wake_at xs) c.in-Some.number ≡ Some c.in-Some.w = ap (λ (keys : List (Option ℕ)). key_at keys c.in-Some.number) (sym c.self.invariant.asleep) ∙ least.0 in
    let at : IsTask xs c.in-Some.number x = record { below = below_of wake_at xs c.in-Some.number c.in-Some.w there; here = c.index_mut-task.ensures.value } in
    let come : c.in-Some.w ≤ t = omega arith in
    let sleeper = sleeper_is t xs (c.in-Some.w, c.in-Some.number) x at there in
    let P : MachineState → Type 0 = λ m. map (woken_task m.tick) (slice_set xs c.in-Some.number c.wake.new.self) ≡ map (woken_task m.tick) m.tasks in
    subst P c.self.view_is (rw c.wake.ensures (map-awake t xs c.in-Some.number c.in-Some.w x at sleeper.asleep come))

pub returns-in-Some-clause-woken : goal.returns-in-Some-clause-woken
returns-in-Some-clause-woken g c = λ _.
    let xs = c.self.inside.tasks.items in
    let x = c.index_mut-task.result.now in
    let least : IsLeast (g.Q.MinQueue.keys c.self.inside.timers) (Some (c.in-Some.w, c.in-Some.number)) = rw c.in-Some.is at c.least.ensures in
    let there : key_at (map wake_at xs) c.in-Some.number ≡ Some c.in-Some.w = ap (λ (keys : List (Option ℕ)). key_at keys c.in-Some.number) (sym c.self.invariant.asleep) ∙ least.0 in
    let P : MachineState → Type 0 = λ m. count_some (map wake_at (slice_set xs c.in-Some.number c.wake.new.self)) < count_some (map wake_at m.tasks) in
    subst P c.self.view_is (rw c.wake.ensures (fewer_asleep xs c.in-Some.number c.in-Some.w c.in-Some.w x there))

pub returns-in_default-clause-all : goal.returns-in_default-clause-all
returns-in_default-clause-all g c = λ _.
    let least : IsLeast (g.Q.MinQueue.keys c.self.inside.timers) (Some (c.in-Some.w, c.in-Some.number)) = rw c.in-Some.is at c.least.ensures in
    let later : c.self.inside.clock < c.in-Some.w = omega arith in
    let P : MachineState → Type 0 = λ m. map (woken_task m.tick) m.tasks ≡ m.tasks in
    subst P c.self.view_is (none_due-least c.self.inside.clock (g.Q.MinQueue.keys c.self.inside.timers) c.self.inside.tasks.items (c.in-Some.w, c.in-Some.number) c.self.invariant.asleep least later)

pub returns-in_default-2-clause-all : goal.returns-in_default-2-clause-all
returns-in_default-2-clause-all g c = λ _.
    let none : IsLeast (g.Q.MinQueue.keys c.self.inside.timers) None = rw c.in_default.is at c.least.ensures in
    let P : MachineState → Type 0 = λ m. map (woken_task m.tick) m.tasks ≡ m.tasks in
    subst P c.self.view_is (none_due-none c.self.inside.clock (g.Q.MinQueue.keys c.self.inside.timers) c.self.inside.tasks.items c.self.invariant.asleep none)
