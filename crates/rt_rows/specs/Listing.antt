-- Rows of lists of jobs with their details, of reports as comma-separated values, and of failures.
use Rattle.std.specs.Prelude.{ℕ, Bool, true, List, [], ◌∷◌, ◌++◌, codes}
use Rattle.rt_image.specs.SystemFile.{SetTask, TaskSet}
use Rattle.rt_history.specs.Legal.{legal}
use Rattle.rt_report.specs.CsvText.{csv_text}
use Rattle.rt_report.specs.DetailText.{detailed_text, unfinished_text}
use Rattle.rt_report.specs.Failures.{has_failed}
use Rattle.rt_report.specs.declared.failing.Failing.{Failing}
use Rattle.rt_rows.specs.Sets.{task, set_of, one}

-- the list of the jobs of t ticks of a set, with details, and the lines of those that aren't finished then
abbrev pub detailed : TaskSet → ℕ → List ℕ
detailed set t = detailed_text set (legal set t)

abbrev pub unfinished : TaskSet → ℕ → List ℕ
unfinished set t = unfinished_text true set (legal set t)

-- the report of t ticks as comma-separated values
abbrev pub separated : TaskSet → ℕ → List ℕ
separated set t = csv_text set t (legal set t)

-- whether the first task fails so in t ticks
abbrev pub fails : Failing → TaskSet → ℕ → Bool
fails what set t = has_failed what set t (legal set t) 0

-- li a7,1; a word that sets a1; ecall: a write of so many bytes at address 0, of which none is in RAM
abbrev pub writes : ℕ → TaskSet
writes length = one 5 10 (0x00100893 ∷ length ∷ 0x00000073 ∷ [])

-- li a7,2; li a0,7; li a1,0; ecall; li a7,0; ecall: sleeps from tick 3 until 7, wakes to a kept budget, and ends at 8
abbrev pub napper : SetTask
napper = task 5 10 (0x00200893 ∷ 0x00700513 ∷ 0x00000593 ∷ 0x00000073 ∷ 0x00000893 ∷ 0x00000073 ∷ [])

-- four times nop; li a7,0; ecall: a job of 6 ticks from tick 4 on, which loses ticks 7 and 8 to the first task
abbrev pub interrupting : TaskSet
interrupting = set_of 40 (napper ∷ task 20 40 (0x00000013 ∷ 0x00000013 ∷ 0x00000013 ∷ 0x00000013 ∷ 0x00000893 ∷ 0x00000073 ∷ []) ∷ [])

abbrev pub detailed_header : List ℕ
detailed_header = codes "task,job,release,finish,response,ticks,fresh,calm,hard,late,start,budget,deadline,interrupted,period,over,name\n"

abbrev pub interrupted_lines : List ℕ
interrupted_lines =
    detailed_header
    ++ codes "0,0,0,3,4,4,true,true,true,false,0,5,10,0,10,false,task0\n"
    ++ codes "0,1,7,8,2,2,false,true,false,false,7,5,10,0,10,false,task0\n"
    ++ codes "1,0,0,11,12,6,true,true,true,false,4,20,40,2,40,false,task1\n"

-- after 10 ticks
abbrev pub interrupted_line : List ℕ
interrupted_line = codes "1,0,0,,,4,true,true,,,4,20,40,2,40,,task1\n"

-- the five jobs of `soft`: the deadline of the third and the fourth is that to which tick 7 moved it on
abbrev pub soft_details : List ℕ
soft_details =
    detailed_header
    ++ codes "0,0,0,3,4,4,true,true,true,false,0,5,10,0,10,false,task0\n"
    ++ codes "0,1,7,7,1,1,false,true,false,false,7,5,10,0,10,false,task0\n"
    ++ codes "0,2,7,8,2,1,false,true,false,false,8,5,20,0,10,false,task0\n"
    ++ codes "0,3,7,13,7,5,false,false,false,false,9,5,20,0,10,false,task0\n"
    ++ codes "0,4,26,29,4,4,true,false,false,false,26,5,36,0,10,false,task0\n"

-- after 24 ticks its last one sleeps until 26, and has a budget and a deadline then
abbrev pub soft_unfinished : List ℕ
soft_unfinished = codes "0,4,26,,,0,true,true,,,,5,36,0,10,,task0\n"

abbrev pub csv_header : List ℕ
csv_header =
    codes "task,jobs,ticks,min,max,hard,late,stands,most,over,fresh,kept,postponed,yields,granted,refused,response,budget,period,name\n"

abbrev pub soft_csv : List ℕ
soft_csv = csv_header ++ codes "0,5,15,1,7,1,0,ended,5,0,2,1,3,2,0,0,18,5,10,task0\n"

-- a reserve that is granted, and has its budget; no job, and no response, of a task that faults at once
abbrev pub granted_csv : List ℕ
granted_csv = csv_header ++ codes "0,1,6,6,6,1,0,asleep,6,0,1,0,0,0,1,0,6,10,20,task0\n"

abbrev pub fault_csv : List ℕ
fault_csv = csv_header ++ codes "0,0,1,,,0,0,Break,,0,1,0,0,0,0,0,0,5,10,task0\n"
