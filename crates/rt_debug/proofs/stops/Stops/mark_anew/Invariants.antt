use Rattle.std.proofs.Common.{take}
use Rattle.rt_debug.specs.Working.Marks.{HaveMarks}
use Rattle.rt_debug.proofs.stops.Stops.mark_anew.Given as goal

abbrev pub invariant-loop-slot : goal.invariant-loop-slot
invariant-loop-slot g l = HaveMarks l.marks.words.items (take l.slot-index l.slot-items)
