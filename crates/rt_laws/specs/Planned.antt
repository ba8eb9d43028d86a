-- The jobs of a program that runs alone and asks for nothing.
use Rattle.std.specs.Prelude.{ℕ, zero, suc, ◌+◌, List, [], ◌∷◌}
use Rattle.rt_history.specs.declared.record.AttemptOutcome.{AttemptOutcome}
use Rattle.rt_history.specs.declared.record.AttemptOutcome.TheVariants.{End, Sleep}
use Rattle.rt_history.specs.Program.{Program}
use Rattle.rt_laws.specs.Alone.{attempted}
use Rattle.rt_laws.specs.Certified.{outcome_of}

-- the releases and the attempts of the jobs that it finishes alone within k attempts
abbrev pub planned_by : List (ℕ × ℕ) → List (ℕ × ℕ) → (ℕ → List (ℕ × ℕ)) → AttemptOutcome → List (ℕ × ℕ)
planned_by ends stays slept End = ends
planned_by ends stays slept (Sleep w) = slept w
planned_by ends stays slept _ = stays

abbrev pub planned : ℕ → ℕ → ℕ → Program → List (ℕ × ℕ)
planned zero r m p = []
planned (suc k) r m p =
    planned_by ((r, m + 1) ∷ []) (planned k r (m + 1) (attempted [] p)) (λ w. (r, m + 1) ∷ planned k w 0 (attempted [] p)) (outcome_of p)
