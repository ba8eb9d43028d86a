use Rattle.std.proofs.Common.{◌≡◌, Some, take}
use Rattle.std.specs.List.{fold}
use Rattle.rt_programs.specs.CertifySet.{promised_by}
use Rattle.rt_programs.proofs.outcome.promised.Given as goal

abbrev pub invariant-loop-outcome : goal.invariant-loop-outcome
invariant-loop-outcome l = l.most ≡ fold promised_by (Some l.jobs) (take l.outcome-index l.outcomes)
