use Rattle.rt_core.proofs.Common.{◌≡◌, ◌+◌, ◌≤◌, map, slice_set, Some, refl, ap, subst, ◌∙◌, arith, tick_limit, IsLeast, deadline, MachineState, wake_at}
use Rattle.rt_core.specs.Working.Ran.{Attempts}
use Rattle.rt_core.proofs.TaskLemmas.{Runs-sound}
use Rattle.rt_core.proofs.MachineLemmas.{IsTask, below_of, can_run, tied-set, Runs-attempts}
use Rattle.rt_core.proofs.machine.Machine.attempt.Goals as goal

pub attempt-ran-requires-clause-room : goal.attempt-ran-requires-clause-room
attempt-ran-requires-clause-room g c =
    let xs = c.self.inside.tasks.items in
    let m : MachineState = record { hyper = c.self.inside.hyper; tick = c.self.inside.clock; tasks = xs } in
    let tasks : xs ≡ c.args.self.now.tasks = ap (λ (m : MachineState). m.tasks) c.self.view_is in
    let least : IsLeast (map deadline xs) (Some c.args.least) = rw tasks c.requires.named in
    let at : IsTask xs c.args.least.1 c.index_mut-task.result.now = record { below = below_of deadline xs c.args.least.1 c.args.least.0 least.0; here = c.index_mut-task.ensures.value } in
    (can_run m c.args.least c.index_mut-task.result.now at least c.self.invariant.sound c.self.invariant.limit).room

pub invariant_of-self : goal.invariant_of-self
invariant_of-self g c =
    let xs = c.self.inside.tasks.items in
    let x = c.index_mut-task.result.now in
    let y = c.attempt-ran.new.self in
    let t = c.self.inside.clock in
    let m : MachineState = record { hyper = c.self.inside.hyper; tick = t; tasks = xs } in
    let tasks : xs ≡ c.args.self.now.tasks = ap (λ (m : MachineState). m.tasks) c.self.view_is in
    let least : IsLeast (map deadline xs) (Some c.args.least) = rw tasks c.requires.named in
    let at : IsTask xs c.args.least.1 x = record { below = below_of deadline xs c.args.least.1 c.args.least.0 least.0; here = c.index_mut-task.ensures.value } in
    let tick : t ≡ c.args.self.now.tick = ap (λ (m : MachineState). m.tick) c.self.view_is in
    let limit : t + 1 ≤ tick_limit = omega (arith, c.requires.limit) in
    let runs = can_run m c.args.least x at least c.self.invariant.sound c.self.invariant.limit in
    let sound = Runs-sound m c.args.least.1 x y c.attempt-ran.result runs.named.there runs.sound c.attempt-ran.ensures.runs in
    let ready : (g.Q.MinQueue.keys c.settle_ran.new.ready) ≡ slice_set (g.Q.MinQueue.keys c.self.inside.ready) c.args.least.1 (deadline y) =
    c.settle_ran.ensures.ready ∙ rw (c.mode-mode.ensures, c.deadline-after.ensures) refl in
    let asleep : (g.Q.MinQueue.keys c.settle_ran.new.timers) ≡ slice_set (g.Q.MinQueue.keys c.self.inside.timers) c.args.least.1 (wake_at y) =
    c.settle_ran.ensures.timers ∙ rw c.mode-mode.ensures refl in
    tied-set (g.Q.MinQueue.keys c.self.inside.ready) (g.Q.MinQueue.keys c.self.inside.timers) (g.Q.MinQueue.keys c.settle_ran.new.ready) (g.Q.MinQueue.keys c.settle_ran.new.timers) c.self.inside.hyper t (t + 1) xs c.args.least.1 y c.self.invariant (omega arith) limit sound ready asleep

pub returns : goal.returns
returns g c =
    let xs = c.self.inside.tasks.items in
    let x = c.index_mut-task.result.now in
    let y = c.attempt-ran.new.self in
    let t = c.self.inside.clock in
    let m : MachineState = record { hyper = c.self.inside.hyper; tick = t; tasks = xs } in
    let tasks : xs ≡ c.args.self.now.tasks = ap (λ (m : MachineState). m.tasks) c.self.view_is in
    let least : IsLeast (map deadline xs) (Some c.args.least) = rw tasks c.requires.named in
    let at : IsTask xs c.args.least.1 x = record { below = below_of deadline xs c.args.least.1 c.args.least.0 least.0; here = c.index_mut-task.ensures.value } in
    let runs = can_run m c.args.least x at least c.self.invariant.sound c.self.invariant.limit in
    let new : MachineState = record { hyper = c.self.inside.hyper; tick = t + 1; tasks = slice_set xs c.args.least.1 y } in
    subst (λ (old : MachineState). Attempts c.args.least.1 c.attempt-ran.result old new) c.self.view_is
    (Runs-attempts m c.args.least.1 x y c.attempt-ran.result runs.named runs.sound c.attempt-ran.ensures.runs)
