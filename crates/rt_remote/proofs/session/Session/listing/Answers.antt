use Rattle.rt_remote.proofs.Common.{◌∙◌, arith, false, is_listed}
use Rattle.std.proofs.lemmas.List.{length-set}
use Rattle.std.proofs.lemmas.List.FromFn.{fill_by_all}
use Rattle.rt_remote.proofs.FillLemmas.{fill-more}
use Rattle.rt_remote.proofs.session.Session.listing.Goals as goal

pub loop-task-preserved : goal.loop-task-preserved
loop-task-preserved g c = record {
  long = length-set c.loop-task.listing c.loop-task.task c.is_listed.result ∙ c.loop-task.invariant.long;
  each = fill-more (is_listed c.args.self.now) c.loop-task.listing c.loop-task.task c.is_listed.result false (omega (arith, c.loop-task-test.true, c.loop-task.invariant.long)) c.is_listed.ensures c.loop-task.invariant.each;
}

pub returns : goal.returns
returns g c = fill_by_all (is_listed c.args.self.now) c.loop-task.listing 64 false c.loop-task.invariant.long (λ k less. c.loop-task.invariant.each k (omega (arith, less, c.loop-task-test.false)))
