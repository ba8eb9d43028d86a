-- Rows of the limits of admission.
use Rattle.std.specs.Prelude.{ℕ, List, replicate}
use Rattle.rt_admit.specs.declared.params.Params.{Params}

-- so many tasks, each of one tick of this period
abbrev pub ticks_of : ℕ → ℕ → List Params
ticks_of count period = replicate count (record { budget = 1; period = period; start = 0 })
