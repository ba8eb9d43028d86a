-- Rows of overloaded sets, and what is reported of them.
use Rattle.std.specs.Prelude.{ℕ, List, [], ◌∷◌, ◌++◌, codes}
use Rattle.rt_image.specs.SystemFile.{TaskSet}
use Rattle.rt_history.specs.Admitted.{task_params}
use Rattle.rt_laws.specs.declared.breach.exceeding.Breach.{Breach}
use Rattle.rt_programs.specs.Check.{overload_text}
use Rattle.rt_rows.specs.Sets.{task, set_of, busy}

-- what is told of a set with this breach
abbrev pub told : TaskSet → Breach → List ℕ
told set b = overload_text set.hyper (task_params set.tasks) b

-- weights of 8 and 6 of 12: task 0 runs at 0, 1, 4, 5 and 8 to 11, and task 1 at 2, 3, 6 and 7. After 12 ticks task 1 has 2 to
-- spend before 12.
abbrev pub two_thirds_and_half : TaskSet
two_thirds_and_half = set_of 12 (task 2 3 busy ∷ task 2 4 busy ∷ [])

abbrev pub half_misses : Breach
half_misses = record { task = 1; c = 2; d = 12 }

abbrev pub half_misses_text : List ℕ
half_misses_text =
    codes "task 0 weight 8\n"
    ++ codes "task 1 weight 6\n"
    ++ codes "breach task 1 c 2 d 12 tick 12\n"

-- weights of 12 and 1 of 12: task 0 runs at each tick, from 9 on, where both deadlines are 12, since its number is less
abbrev pub all_and_one : TaskSet
all_and_one = set_of 12 (task 3 3 busy ∷ task 1 12 busy ∷ [])

abbrev pub one_misses : Breach
one_misses = record { task = 1; c = 1; d = 12 }

abbrev pub one_misses_text : List ℕ
one_misses_text =
    codes "task 0 weight 12\n"
    ++ codes "task 1 weight 1\n"
    ++ codes "breach task 1 c 1 d 12 tick 12\n"

-- weights of 6, 4 and 2 of 12
abbrev pub full : TaskSet
full = set_of 12 (task 1 2 busy ∷ task 1 3 busy ∷ task 1 6 busy ∷ [])

abbrev pub full_text : List ℕ
full_text = codes "admitted 12 of 12\n"
