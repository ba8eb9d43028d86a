-- The ids of tasks in gdb's Remote Serial Protocol.
use Rattle.std.specs.Prelude.{ℕ, ◌+◌, false, List, [], ◌∷◌, ◌++◌, take, codes}
use Rattle.std.specs.Fmt.{digits}
use Rattle.std.specs.List.{flat_map}
use Rattle.rt_packet.specs.declared.answer.ids.Ids.{Ids}
use Rattle.rt_packet.specs.declared.answer.ids.Ids.TheVariants.{Processes, Threads}

-- a number in hexadecimal, without leading zeros
abbrev pub hex_number : ℕ → List ℕ
hex_number n = digits 16 false n

-- the id of a task, whose number is from 0 and whose id is from 1
abbrev pub id_text : Ids → ℕ → List ℕ
id_text Processes task = codes "p" ++ hex_number (task + 1) ++ codes "." ++ hex_number (task + 1)
id_text Threads task = hex_number (task + 1)

-- the current task
abbrev pub task_text : Ids → ℕ → List ℕ
task_text ids task = codes "QC" ++ id_text ids task

-- one task more
abbrev pub other_text : Ids → ℕ → List ℕ
other_text ids task = codes "," ++ id_text ids task

-- some tasks, in their order, or none
abbrev pub named : Ids → List ℕ → List ℕ
named ids [] = codes "l"
named ids (task ∷ tasks) = codes "m" ++ id_text ids task ++ flat_map (other_text ids) tasks

-- the first 64 of them
abbrev pub tasks_text : Ids → List ℕ → List ℕ
tasks_text ids tasks = named ids (take 64 tasks)
