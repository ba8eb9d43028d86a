use Rattle.std.proofs.Common.{◌≡◌, ◌≤◌, ◌<◌, ◌+◌, ◌-◌, ℕ, None}
use Rattle.rt_words.specs.Limits.{tick_limit}
use Rattle.rt_image.specs.SystemFile.{TaskSet}
use Rattle.rt_walk.specs.Jobs.{Stand}
use Rattle.rt_walk.specs.Position.{IsAt, stand_of}
use Rattle.rt_walk.specs.Walking.{IsWalk}
use Rattle.rt_debug.specs.FirstStop.{stands_at}
use Rattle.rt_debug.specs.StopSlots.{meets_of}
use Rattle.rt_debug.specs.Stopping.{stopping}
use Rattle.rt_debug.specs.Working.Watch.{Covers}
use Rattle.rt_debug.proofs.session.seek_event.Given as goal

abbrev pub invariant-loop-left : goal.invariant-loop-left
invariant-loop-left g l = record {
  few : l.left ≤ l.n;
  start : l.start ≡ l.walk.shown.machine.tick;
  clock : l.walk.shown.machine.tick ≡ l.initial.walk.shown.machine.tick + (l.n - l.left);
  limit : l.walk.shown.machine.tick ≤ tick_limit;
  walk : IsWalk l.initial.walk l.walk;
  stands : (begin : Stand) (set : TaskSet) → IsAt begin set (stand_of l.initial.walk.shown) → IsAt begin set (stand_of l.walk.shown);
  covers : Covers (meets_of (λ b. (goal.Stop-dyn g (b.vtable, b.value)).meets b.value)) l.stops.slots.items l.stops.marks.words.items l.watch;
  none : (begin : Stand) (set : TaskSet) → IsAt begin set (stand_of l.initial.walk.shown) → (u : ℕ) → l.initial.walk.shown.machine.tick < u → u ≤ l.walk.shown.machine.tick
      → stands_at (meets_of (λ b. (goal.Stop-dyn g (b.vtable, b.value)).meets b.value)) (stopping l.stops.slots.items l.events) begin set u ≡ None;
}

abbrev pub decreases-loop-left : goal.decreases-loop-left
decreases-loop-left g l = l.left
