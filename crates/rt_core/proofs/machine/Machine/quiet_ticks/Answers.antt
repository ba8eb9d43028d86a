use Rattle.rt_core.proofs.Common.{ℕ, ◌-◌, ◌≤◌, List, Option, map, Some, None, subst, arith, IsLeast, MachineState, wake_at, IsQuiet}
use Rattle.rt_core.proofs.PlainLemmas.{quiet-until, quiet-on}
use Rattle.rt_core.proofs.machine.Machine.quiet_ticks.Goals as goal

pub returns-in-Some-clause-quiet : goal.returns-in-Some-clause-quiet
returns-in-Some-clause-quiet g c =
    let m : MachineState = record { hyper = c.self.inside.hyper; tick = c.self.inside.clock; tasks = c.self.inside.tasks.items } in
    let least : IsLeast (map wake_at m.tasks) (Some (c.in-Some.w, c.in-Some.field-0-1)) =
    subst (λ (keys : List (Option ℕ)). IsLeast keys (Some (c.in-Some.w, c.in-Some.field-0-1))) c.self.invariant.asleep (rw c.in-Some.is at c.least.ensures) in
    let early : c.min.result ≤ c.in-Some.w - m.tick = omega (arith, c.min.ensures, c.saturating_sub.ensures) in
    subst (IsQuiet c.min.result) c.self.view_is (quiet-until c.min.result m (c.in-Some.w, c.in-Some.field-0-1) least early)

pub returns-in-None-clause-quiet : goal.returns-in-None-clause-quiet
returns-in-None-clause-quiet g c =
    let m : MachineState = record { hyper = c.self.inside.hyper; tick = c.self.inside.clock; tasks = c.self.inside.tasks.items } in
    let none : IsLeast (map wake_at m.tasks) None =
    subst (λ (keys : List (Option ℕ)). IsLeast keys None) c.self.invariant.asleep (rw c.in-None.is at c.least.ensures) in
    subst (IsQuiet c.args.limit) c.self.view_is (quiet-on c.args.limit m none)
