-- What the laws of a profile sum up.
use Rattle.std.specs.Prelude.{ℕ, List, [], ◌∷◌, map}
use Rattle.std.specs.List.{flat_map, enumerate_from}
use Rattle.rt_image.specs.SystemFile.{TaskSet}
use Rattle.rt_history.specs.declared.record.Record.{Record}
use Rattle.rt_profile.specs.Attempts.{attempts}
use Rattle.rt_profile.specs.Rows.{pcs, ticks_at}

-- the counts that are told of task i by address
abbrev pub task_counts : ℕ → List Record → List ℕ
task_counts i history = map (ticks_at (attempts i history)) (pcs (attempts i history))

-- those of all tasks
abbrev pub address_counts : TaskSet → List Record → List ℕ
address_counts set history = flat_map (λ n. task_counts n.0 history) (enumerate_from 0 set.tasks)

-- the last of these numbers, m where there is none
abbrev pub last_of : ℕ → List ℕ → ℕ
last_of m [] = m
last_of m (n ∷ ns) = last_of n ns
