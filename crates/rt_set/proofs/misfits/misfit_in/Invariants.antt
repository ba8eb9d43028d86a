use Rattle.std.proofs.Common.{◌≡◌, drop, Some}
use Rattle.std.specs.Option.{option_map}
use Rattle.rt_set.specs.Misfit.{misfit_in}
use Rattle.rt_set.proofs.misfits.misfit_in.Given as goal

-- the words that are left, in what is left of the line, have the first misfit of all
abbrev pub invariant-loop-kind : goal.invariant-loop-kind
invariant-loop-kind l = misfit_in l.form (Some l.line) ≡ misfit_in (drop l.kind-index l.form) (option_map (λ rest. rest.now) l.left)
