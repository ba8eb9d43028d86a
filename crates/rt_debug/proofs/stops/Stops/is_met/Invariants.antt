use Rattle.std.proofs.Common.{◌≡◌, ◌+◌, drop}
use Rattle.rt_debug.specs.StopSlots.{meets_of, hit_from}
use Rattle.rt_debug.proofs.stops.Stops.is_met.Given as goal

abbrev pub invariant-loop-slot : goal.invariant-loop-slot
invariant-loop-slot g l =
    hit_from (λ s. meets_of (λ b. (goal.Stop-dyn g (b.vtable, b.value)).meets b.value) s l.task l.pc) 1 l.self.slots.items
    ≡ hit_from (λ s. meets_of (λ b. (goal.Stop-dyn g (b.vtable, b.value)).meets b.value) s l.task l.pc) (l.slot-index + 1) (drop l.slot-index l.self.slots.items)
