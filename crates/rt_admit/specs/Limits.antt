-- The limits of an admitted set.
use Rattle.std.specs.Prelude.{ℕ}

-- the most tasks of an admitted set
abbrev pub task_limit : ℕ
task_limit = 64

-- the greatest hyperperiod of an admitted set, in ticks
abbrev pub hyper_limit : ℕ
hyper_limit = 4194304
