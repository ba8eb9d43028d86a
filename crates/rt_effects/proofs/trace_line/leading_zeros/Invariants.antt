use Rattle.rt_effects.proofs.Common.{◌≡◌, drop}
use Rattle.rt_effects.specs.TraceText.{least_digits}
use Rattle.rt_effects.proofs.trace_line.leading_zeros.Given as goal

abbrev pub invariant-loop-place : goal.invariant-loop-place
invariant-loop-place l = least_digits (drop l.place l.digits) ≡ least_digits l.digits
