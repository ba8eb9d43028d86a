use Rattle.std.proofs.Common.{◌≡◌, ◌+◌, drop}
use Rattle.rt_debug.specs.StopSlots.{meets_of, hit_from}
use Rattle.rt_debug.proofs.stops.Stops.number_hit.Given as goal

abbrev pub invariant-loop-place : goal.invariant-loop-place
invariant-loop-place g l =
    hit_from (λ s. meets_of (λ b. (goal.Stop-dyn g (b.vtable, b.value)).meets b.value) s l.task l.pc) 1 l.self.slots.items
    ≡ hit_from (λ s. meets_of (λ b. (goal.Stop-dyn g (b.vtable, b.value)).meets b.value) s l.task l.pc) (l.place + 1) (drop l.place l.slot-items)
