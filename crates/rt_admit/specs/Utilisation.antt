-- The utilisation of a set, as a fraction of whole numbers.
use Rattle.std.specs.Prelude.{ℕ, ◌+◌, ◌*◌, List, [], ◌∷◌}
use Rattle.rt_admit.specs.declared.params.Params.{Params}

-- a fraction of whole numbers, over / under
pub record Fraction : Type 0 where
  pub over : ℕ
  pub under : ℕ

-- the sum of two fractions, a / b + x / y = (a * y + x * b) / (b * y)
abbrev pub fraction_sum : Fraction → Fraction → Fraction
fraction_sum f g = record { over = f.over * g.under + g.over * f.under; under = f.under * g.under }

-- the utilisation of a set (Liu and Layland 1973): the sum of Q / P over its tasks
abbrev pub utilisation : List Params → Fraction
utilisation [] = record { over = 0; under = 1 }
utilisation (task ∷ tasks) = fraction_sum (record { over = task.budget; under = task.period }) (utilisation tasks)
