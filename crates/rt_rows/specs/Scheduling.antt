-- Rows of scheduling: which task runs, and what its ticks cost.
use Rattle.std.specs.Prelude.{ℕ, List, [], ◌∷◌, ◌++◌, codes}
use Rattle.rt_image.specs.SystemFile.{TaskSet}
use Rattle.rt_rows.specs.Sets.{task, set_of, one, busy}

-- two tasks, both busy for ever: at tick 7 both deadlines are 12, and the lesser number runs
abbrev pub two_busy : TaskSet
two_busy = set_of 12 (task 1 3 busy ∷ task 2 4 busy ∷ [])

abbrev pub two_busy_text : List ℕ
two_busy_text =
    codes "0 0 80000000 0000006f next\n"
    ++ codes "1 1 80000000 0000006f next\n"
    ++ codes "2 1 80000000 0000006f next\n"
    ++ codes "3 0 80000000 0000006f next\n"
    ++ codes "4 1 80000000 0000006f next\n"
    ++ codes "5 1 80000000 0000006f next\n"
    ++ codes "6 0 80000000 0000006f next\n"
    ++ codes "7 0 80000000 0000006f next\n"
    ++ codes "8 1 80000000 0000006f next\n"
    ++ codes "9 1 80000000 0000006f next\n"
    ++ codes "10 0 80000000 0000006f next\n"
    ++ codes "11 1 80000000 0000006f next\n"
    ++ codes "after 12\n"
    ++ codes "task 0 active c 1 d 18 pc 80000000\n"
    ++ codes "regs\n"
    ++ codes "out 0\n"
    ++ codes "task 1 active c 1 d 16 pc 80000000\n"
    ++ codes "regs\n"
    ++ codes "out 0\n"

-- at tick 1 both deadlines are 4, and the lesser number runs, though the other ran last
abbrev pub two_tied : TaskSet
two_tied = set_of 4 (task 1 4 busy ∷ task 1 2 busy ∷ [])

abbrev pub two_tied_text : List ℕ
two_tied_text =
    codes "0 1 80000000 0000006f next\n"
    ++ codes "1 0 80000000 0000006f next\n"
    ++ codes "after 2\n"
    ++ codes "task 0 active c 1 d 8 pc 80000000\n"
    ++ codes "regs\n"
    ++ codes "out 0\n"
    ++ codes "task 1 active c 1 d 4 pc 80000000\n"
    ++ codes "regs\n"
    ++ codes "out 0\n"

-- a task that starts at tick 3
abbrev pub starting : TaskSet
starting = set_of 10 (record (task 5 10 busy) { start = 3 } ∷ [])

-- after no tick
abbrev pub not_yet_started_text : List ℕ
not_yet_started_text =
    codes "after 0\n"
    ++ codes "task 0 asleep 3 c 0 d 0 pc 80000000\n"
    ++ codes "regs\n"
    ++ codes "out 0\n"

-- after 4 ticks
abbrev pub started_text : List ℕ
started_text =
    codes "0 idle 3\n"
    ++ codes "3 0 80000000 0000006f next\n"
    ++ codes "after 4\n"
    ++ codes "task 0 active c 4 d 13 pc 80000000\n"
    ++ codes "regs\n"
    ++ codes "out 0\n"

-- ecall with 0 in a7: a task of this budget ends at once
abbrev pub ending : ℕ → TaskSet
ending budget = one budget 10 (0x00000073 ∷ [])

-- of a budget of 5
abbrev pub ended_text : List ℕ
ended_text =
    codes "0 0 80000000 00000073 end\n"
    ++ codes "1 idle 1\n"
    ++ codes "after 2\n"
    ++ codes "task 0 ended c 4 d 10 pc 80000004\n"
    ++ codes "regs\n"
    ++ codes "out 0\n"

-- of a budget of 1, which the tick of the end uses up
abbrev pub ended_at_last_text : List ℕ
ended_at_last_text =
    codes "0 0 80000000 00000073 end\n"
    ++ codes "1 idle 1\n"
    ++ codes "after 2\n"
    ++ codes "task 0 ended c 1 d 20 pc 80000004\n"
    ++ codes "regs\n"
    ++ codes "out 0\n"
