use Rattle.rt_remote.proofs.Common.{◌∙◌, arith, ℕ, Option, None, if◌then◌else◌, Action, RemoteState, is_listed}
use Rattle.std.proofs.lemmas.List.{length-set}
use Rattle.std.proofs.lemmas.List.FromFn.{fill_by_all}
use Rattle.rt_remote.specs.declared.chosen.Choice.{Choice}
use Rattle.rt_remote.specs.Working.Choices.{action_by}
use Rattle.rt_remote.proofs.FillLemmas.{fill-more}
use Rattle.rt_remote.proofs.session.Session.by_number.Goals as goal

abbrev chosen : RemoteState → Choice → ℕ → Option Action
chosen state choice i = if is_listed state i then action_by choice i else None

pub loop-task-preserved : goal.loop-task-preserved
loop-task-preserved g c = record {
  long = length-set c.loop-task.actions c.loop-task.task c.chosen.result ∙ c.loop-task.invariant.long;
  each = fill-more (chosen c.args.self.now c.args.choice) c.loop-task.actions c.loop-task.task c.chosen.result None (omega (arith, c.loop-task-test.true, c.loop-task.invariant.long)) c.chosen.ensures c.loop-task.invariant.each;
}

pub returns : goal.returns
returns g c = fill_by_all (chosen c.args.self.now c.args.choice) c.loop-task.actions 64 None c.loop-task.invariant.long (λ k less. c.loop-task.invariant.each k (omega (arith, less, c.loop-task-test.false)))
