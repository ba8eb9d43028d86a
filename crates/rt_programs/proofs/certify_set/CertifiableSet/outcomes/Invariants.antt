use Rattle.rt_programs.proofs.Common.{◌≡◌, set_tasks}
use Rattle.rt_programs.proofs.CertifySetLemmas.{AreFirst}
use Rattle.rt_programs.proofs.certify_set.CertifiableSet.outcomes.Given as goal

abbrev pub invariant-loop-number : goal.invariant-loop-number
invariant-loop-number g l = record {
  first : AreFirst l.jobs l.except (set_tasks l.self.system.tasks.items) l.number l.outcomes.items;
  calm : l.faulted.lines ≡ l.initial.faulted.lines;
}
