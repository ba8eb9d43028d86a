use Rattle.std.proofs.Common.{◌≡◌, drop}
use Rattle.rt_programs.specs.CertifySet.{first_refused}
use Rattle.rt_programs.proofs.certify_set.CertifiableSet.first_refused.Given as goal

abbrev pub invariant-loop-number : goal.invariant-loop-number
invariant-loop-number l = first_refused l.number (drop l.number l.outcomes) ≡ first_refused 0 l.outcomes
