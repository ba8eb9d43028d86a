use Rattle.rt_remote.proofs.Common.{◌≡◌, length, ℕ, ◌<◌, get_or, false, is_listed}
use Rattle.rt_remote.proofs.session.Session.listing.Given as goal

abbrev pub invariant-loop-task : goal.invariant-loop-task
invariant-loop-task g l = record {
  long : length l.listing ≡ 64;
  each : (k : ℕ) → k < l.task → get_or l.listing k false ≡ is_listed l.self k;
}
