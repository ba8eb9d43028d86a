use Rattle.rt_remote.proofs.Common.{◌≡◌, length, ℕ, ◌<◌, get_or, if◌then◌else◌, None, is_listed}
use Rattle.rt_remote.specs.Working.Choices.{action_by}
use Rattle.rt_remote.proofs.session.Session.by_number.Given as goal

abbrev pub invariant-loop-task : goal.invariant-loop-task
invariant-loop-task g l = record {
  long : length l.actions ≡ 64;
  each : (k : ℕ) → k < l.task → get_or l.actions k None ≡ (if is_listed l.self k then action_by l.choice k else None);
}
