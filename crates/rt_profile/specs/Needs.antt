-- How many ticks the finished jobs of each task needed, counted by brackets (Liu and Layland 1973).
use Rattle.std.specs.Prelude.{ℕ, ◌==◌, nat_le, List, [], ◌∷◌, map, count_by}
use Rattle.std.specs.List.{flat_map, enumerate_from}
use Rattle.rt_image.specs.SystemFile.{SetTask, TaskSet}
use Rattle.rt_history.specs.declared.record.Record.{Record}
use Rattle.rt_history.specs.OwnPart.{own}
use Rattle.rt_history.specs.Job.{jobs}
use Rattle.rt_profile.specs.declared.need_row.NeedRow.{NeedRow}
use Rattle.rt_profile.specs.Brackets.{bracket_from, bracket_to}
use Rattle.rt_profile.specs.Rows.{placed}

-- the need of each finished job of task i: its ticks
abbrev pub needs : ℕ → SetTask → List Record → List ℕ
needs i s history = map (λ j. j.ticks) (jobs s (own i history))

-- these brackets and those of the needs, told by their first numbers, each once, in rising order
abbrev pub brackets_with : List ℕ → List ℕ → List ℕ
brackets_with bs [] = bs
brackets_with bs (v ∷ vs) = brackets_with (placed (bracket_from v) bs) vs

abbrev pub brackets : List ℕ → List ℕ
brackets vs = brackets_with [] vs

-- the row of the bracket that begins at a: how many needs are in it, and how many are at most its last number
abbrev pub need_row : ℕ → List ℕ → ℕ → NeedRow
need_row i vs a = record {
  task = i;
  from = a;
  to = bracket_to a;
  jobs = count_by (λ v. bracket_from v == a) vs;
  within = count_by (λ v. nat_le v (bracket_to a)) vs;
}

-- the rows of task i: of each bracket with a need
abbrev pub task_needs : ℕ → SetTask → List Record → List NeedRow
task_needs i s history = map (need_row i (needs i s history)) (brackets (needs i s history))

-- those of all tasks
abbrev pub need_rows : TaskSet → List Record → List NeedRow
need_rows set history = flat_map (λ n. task_needs n.0 n.1 history) (enumerate_from 0 set.tasks)
