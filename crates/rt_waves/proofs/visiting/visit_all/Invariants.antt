use Rattle.rt_waves.proofs.Common.{◌≡◌, ◌≤◌, ◌+◌, ◌*◌, ◌++◌, length, All}
use Rattle.rt_history.specs.Working.Bounded.{IsBounded}
use Rattle.rt_waves.proofs.VisitLemmas.{visited_first, lines_first}
use Rattle.rt_waves.proofs.visiting.visit_all.Given as goal

abbrev pub invariant-loop-number : goal.invariant-loop-number
invariant-loop-number l = record {
  short : length l.page ≤ length l.initial.page + 1056 * l.number;
  sound : All (λ x. IsBounded l.moment.tick x.serving.account) l.tasks;
  visited : l.tasks ≡ visited_first l.moment.telling l.moment.tick l.moment.of 0 l.number l.initial.tasks;
  text : l.page ≡ l.initial.page ++ lines_first l.moment.telling l.moment.tick l.moment.of 0 l.number l.initial.tasks;
}
