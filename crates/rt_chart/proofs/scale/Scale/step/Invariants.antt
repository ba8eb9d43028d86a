use Rattle.rt_chart.proofs.Common.{◌≡◌, ◌*◌, ℕ, drop, ticks_in}
use Rattle.std.proofs.Common.{nat_le, find}
use Rattle.rt_chart.specs.Scale.{width, steps}
use Rattle.rt_chart.proofs.scale.Scale.step.Given as goal

abbrev pub invariant-loop-step : goal.invariant-loop-step
invariant-loop-step l =
    find (λ (s : ℕ). nat_le (100 * ticks_in l.self.look.window) (s * width l.self.look.window l.self.look.style)) (drop l.step-index steps)
    ≡ find (λ (s : ℕ). nat_le (100 * ticks_in l.self.look.window) (s * width l.self.look.window l.self.look.style)) steps
