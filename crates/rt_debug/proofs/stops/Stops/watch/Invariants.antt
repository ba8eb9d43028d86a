use Rattle.std.proofs.Common.{◌≡◌, ◌+◌, ℕ, drop, false}
use Rattle.rt_core.specs.declared.view.Next.TheVariants.{Run}
use Rattle.rt_debug.specs.StopSlots.{meets_of, hit_from}
use Rattle.rt_debug.specs.Working.Watch.{sees}
use Rattle.rt_debug.proofs.stops.Stops.watch.Given as goal

abbrev pub invariant-loop-slot : goal.invariant-loop-slot
invariant-loop-slot g l =
    (task pc : ℕ) → sees l.self.marks.words.items l.watch (Run task pc) ≡ false → hit_from (λ s. meets_of (λ b. (goal.Stop-dyn g (b.vtable, b.value)).meets b.value) s task pc) 1 l.self.slots.items
    ≡ hit_from (λ s. meets_of (λ b. (goal.Stop-dyn g (b.vtable, b.value)).meets b.value) s task pc) (l.slot-index + 1) (drop l.slot-index l.self.slots.items)
