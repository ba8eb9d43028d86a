use Rattle.rt_trace.proofs.Common.{◌+◌, ◌*◌, ◌≤◌, ◌++◌, length, take}
use Rattle.rt_trace.specs.RunText.{after_line, tasks_text}
use Rattle.rt_trace.proofs.run.EndText.offer.Given as goal

abbrev pub invariant-loop-number : goal.invariant-loop-number
invariant-loop-number g l = record {
  offered : g.O.Out.offers l.fn.out (after_line l.machine.tick ++ tasks_text l.telling (take l.number l.machine.tasks)) l.out;
  short : length (after_line l.machine.tick ++ tasks_text l.telling (take l.number l.machine.tasks)) ≤ 52 + 140000 * l.number;
}
