use Rattle.rt_programs.proofs.Common.{◌≡◌, ◌≤◌, ◌-◌, Some, [], false, TaskSet, legal, listed_text, told, Said, IsAccounted}
use Rattle.rt_programs.proofs.printing.printing_jobs.print_lines.Given as goal

abbrev pub invariant-parts : goal.invariant-parts
invariant-parts g l = record {
  within : l.run.machine.tick ≤ l.n;
  is_open : (g.S.Sink.seen l.out.inner).failed ≡ false;
  ran : (set : TaskSet) → IsAccounted set 0 l.fn.run → IsAccounted set l.run.machine.tick l.run;
  said : (set : TaskSet) → IsAccounted set 0 l.fn.run → told g.S.Sink.seen l.fn.out ≡ Some [] → Said g.S.Sink.seen (listed_text l.fn.form.details set (legal set l.run.machine.tick)) l.out;
}

abbrev pub decreases-parts : goal.decreases-parts
decreases-parts g l = l.n - l.run.machine.tick
