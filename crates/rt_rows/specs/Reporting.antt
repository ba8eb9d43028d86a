-- Rows of jobs and reports.
use Rattle.std.specs.Prelude.{ℕ, true, false, List, [], ◌∷◌, ◌++◌, codes}
use Rattle.rt_image.specs.SystemFile.{SetTask, TaskSet}
use Rattle.rt_history.specs.Job.{Job}
use Rattle.rt_history.specs.Legal.{legal}
use Rattle.rt_report.specs.JobText.{jobs_text}
use Rattle.rt_report.specs.ReportText.{report_text}
use Rattle.rt_report.specs.WideText.{wide_text}
use Rattle.rt_rows.specs.Sets.{task, set_of, busy}
use Rattle.rt_rows.specs.Reserving.{reserver}

-- the report of t ticks of a set
abbrev pub reported : TaskSet → ℕ → List ℕ
reported set t = report_text set (legal set t)

abbrev pub header : List ℕ
header = codes "task          jobs         ticks           min           max          hard          late\n"

-- a job of 4 ticks from tick 0 on, and after a sleep of 4 ticks one that is open
abbrev pub one_job_text : List ℕ
one_job_text =
    header
    ++ codes "   0             1             8             4             4             1             0\n"
    ++ codes "idle             4\n"

-- no job at all
abbrev pub busy_tasks_text : List ℕ
busy_tasks_text =
    header
    ++ codes "   0             0             5             -             -             0             0\n"
    ++ codes "   1             0             7             -             -             0             0\n"
    ++ codes "idle             0\n"

-- li a7,2; li a0,10; ecall; addi a0,a0,10; ecall; li a7,0; nop; nop; ecall: jobs of 3, 2 and 4 ticks, from ticks 0, 10 and 20 on
abbrev pub worker : ℕ → SetTask
worker budget = task budget 10
    (0x00200893 ∷ 0x00A00513 ∷ 0x00000073 ∷ 0x00A50513 ∷ 0x00000073 ∷ 0x00000893
    ∷ 0x00000013 ∷ 0x00000013 ∷ 0x00000073 ∷ [])

abbrev pub working : ℕ → TaskSet
working budget = set_of 10 (worker budget ∷ [])

-- with a budget of 5
abbrev pub three_jobs : List Job
three_jobs = record { release = 0; finish = 2; ticks = 3; fresh = true; budget = 5; calm = true }
    ∷ record { release = 10; finish = 11; ticks = 2; fresh = true; budget = 5; calm = true }
    ∷ record { release = 20; finish = 23; ticks = 4; fresh = true; budget = 5; calm = true }
    ∷ []

abbrev pub three_jobs_text : List ℕ
three_jobs_text =
    header
    ++ codes "   0             3             9             2             4             3             0\n"
    ++ codes "idle            16\n"

-- with a budget of 3 the third has more ticks than that
abbrev pub scarce_text : List ℕ
scarce_text =
    header
    ++ codes "   0             3             9             2             4             2             0\n"
    ++ codes "idle            16\n"

-- a set that isn't admitted: task 0 runs at ticks 0 and 1, and task 1 ends at tick 2, where 2 was its deadline
abbrev pub overload : TaskSet
overload = set_of 2 (task 1 1 busy ∷ task 1 2 (0x00000073 ∷ []) ∷ [])

abbrev pub late_text : List ℕ
late_text =
    header
    ++ codes "   0             0             2             -             -             0             0\n"
    ++ codes "   1             1             1             3             3             1             1\n"
    ++ codes "idle             0\n"

-- nop; ecall: a hard job that takes its whole period
abbrev pub whole_period : TaskSet
whole_period = set_of 2 (task 2 2 (0x00000013 ∷ 0x00000073 ∷ []) ∷ [])

abbrev pub whole_period_text : List ℕ
whole_period_text =
    header
    ++ codes "   0             1             2             2             2             1             0\n"
    ++ codes "idle             0\n"

-- li a7,2; li a0,8; li a1,0; ecall; ecall, beside a busy task: at tick 8 its first job sleeps until 8, which isn't to come. So the
-- second is released to an active task, and isn't hard, though a wake at 8 would be fresh.
abbrev pub pending : SetTask
pending = task 5 10 (0x00200893 ∷ 0x00800513 ∷ 0x00000593 ∷ 0x00000073 ∷ 0x00000073 ∷ [])

abbrev pub pending_set : TaskSet
pending_set = set_of 10 (task 5 10 busy ∷ pending ∷ [])

abbrev pub pending_jobs : List Job
pending_jobs = record { release = 0; finish = 8; ticks = 4; fresh = true; budget = 5; calm = true }
    ∷ record { release = 8; finish = 9; ticks = 1; fresh = false; budget = 5; calm = true }
    ∷ []

-- reserves a budget of 2 in its first job, of 7 ticks; the second, of 2 ticks from 21 on, has it
abbrev pub reserving : TaskSet
reserving = reserver 0x01500513 (0x00000013 ∷ 0x00000073 ∷ [])

abbrev pub reserving_text : List ℕ
reserving_text =
    header
    ++ codes "   0             2             9             2             7             1             0\n"
    ++ codes "idle            14\n"

-- li a7,2; li a0,7; li a1,0; ecall; ecall; ecall; li a7,3; ecall; li a7,2; li a0,26; ecall; li a7,3; ecall; li a7,0; ecall: the
-- first job is hard. The second, from 7 on, wakes to a kept budget; the third and the fourth, from 7 on too, are released to an
-- active task; the fifth, from 26 on, wakes afresh and yields.
abbrev pub soft : SetTask
soft = task 5 10
    (0x00200893 ∷ 0x00700513 ∷ 0x00000593 ∷ 0x00000073 ∷ 0x00000073 ∷ 0x00000073 ∷ 0x00300893 ∷ 0x00000073
    ∷ 0x00200893 ∷ 0x01A00513 ∷ 0x00000073 ∷ 0x00300893 ∷ 0x00000073 ∷ 0x00000893 ∷ 0x00000073 ∷ [])

abbrev pub soft_set : TaskSet
soft_set = set_of 10 (soft ∷ [])

abbrev pub soft_jobs : List Job
soft_jobs = record { release = 0; finish = 3; ticks = 4; fresh = true; budget = 5; calm = true }
    ∷ record { release = 7; finish = 7; ticks = 1; fresh = false; budget = 5; calm = true }
    ∷ record { release = 7; finish = 8; ticks = 1; fresh = false; budget = 5; calm = true }
    ∷ record { release = 7; finish = 13; ticks = 5; fresh = false; budget = 5; calm = false }
    ∷ record { release = 26; finish = 29; ticks = 4; fresh = true; budget = 5; calm = false }
    ∷ []

abbrev pub soft_text : List ℕ
soft_text =
    header
    ++ codes "   0             5            15             1             7             1             0\n"
    ++ codes "idle            15\n"

-- li a7,5; a word that sets a0; ecall; li a7,2; li a0,20; ecall, of a budget of 10 and a period of 20: a job of 6 ticks that
-- reserves; 10 is granted, and 21 refused
abbrev pub one_reserve : ℕ → SetTask
one_reserve sets_a0 = task 10 20 (0x00500893 ∷ sets_a0 ∷ 0x00000073 ∷ 0x00200893 ∷ 0x01400513 ∷ 0x00000073 ∷ [])

abbrev pub one_reserve_set : ℕ → TaskSet
one_reserve_set sets_a0 = set_of 20 (one_reserve sets_a0 ∷ [])

-- it is hard in both cases
abbrev pub one_reserve_jobs : List Job
one_reserve_jobs = record { release = 0; finish = 5; ticks = 6; fresh = true; budget = 10; calm = true } ∷ []

abbrev pub one_reserve_text : List ℕ
one_reserve_text =
    header
    ++ codes "   0             1             6             6             6             1             0\n"
    ++ codes "idle             0\n"

-- the lines of the jobs of t ticks of a set, and its wide report
abbrev pub listed : TaskSet → ℕ → List ℕ
listed set t = jobs_text set (legal set t)

abbrev pub widely_reported : TaskSet → ℕ → List ℕ
widely_reported set t = wide_text set t (legal set t)

abbrev pub jobs_header : List ℕ
jobs_header = codes "task,job,release,finish,response,ticks,fresh,calm,hard,late\n"

abbrev pub wide_header : List ℕ
wide_header =
    codes "task          jobs         ticks           min           max          hard          late"
    ++ codes "            stands          most          over         fresh          kept     postponed        yields        budget        period  name\n"

-- the five jobs of `soft`
abbrev pub soft_lines : List ℕ
soft_lines =
    jobs_header
    ++ codes "0,0,0,3,4,4,true,true,true,false\n"
    ++ codes "0,1,7,7,1,1,false,true,false,false\n"
    ++ codes "0,2,7,8,2,1,false,true,false,false\n"
    ++ codes "0,3,7,13,7,5,false,false,false,false\n"
    ++ codes "0,4,26,29,4,4,true,false,false,false\n"

-- it wakes afresh at 0 and 26, to what it had at 7; ticks 7, 10 and 27 move its deadline on, the last two by a yield; it has ended
abbrev pub soft_wide_text : List ℕ
soft_wide_text =
    wide_header
    ++ codes "   0             5            15             1             7             1             0"
    ++ codes "             ended             5             0             2             1             3             2             5            10  task0\n"
    ++ codes "idle            15\n"

-- the job of task 1 of `overload`, asked for at 0 and finished at 2 with a period of 2, is hard and late
abbrev pub late_lines : List ℕ
late_lines =
    jobs_header
    ++ codes "1,0,0,2,3,1,true,true,true,true\n"

abbrev pub late_wide_text : List ℕ
late_wide_text =
    wide_header
    ++ codes "   0             0             2             -             -             0             0"
    ++ codes "            active             -             0             1             0             2             0             1             1  task0\n"
    ++ codes "   1             1             1             3             3             1             1"
    ++ codes "             ended             1             1             1             0             1             0             1             2  task1\n"
    ++ codes "idle             0\n"

-- nop; ecall: a job of 2 ticks that takes its whole period, with a budget of 1
abbrev pub at_the_period : TaskSet
at_the_period = set_of 2 (task 1 2 (0x00000013 ∷ 0x00000073 ∷ []) ∷ [])

-- is not over it
abbrev pub at_the_period_text : List ℕ
at_the_period_text =
    wide_header
    ++ codes "   0             1             2             2             2             0             0"
    ++ codes "             ended             2             0             1             0             2             0             1             2  task0\n"
    ++ codes "idle             0\n"

-- asleep until 8 after 5 ticks
abbrev pub asleep_wide_text : List ℕ
asleep_wide_text =
    wide_header
    ++ codes "   0             1             4             4             4             1             0"
    ++ codes "            asleep             4             0             1             0             0             0             5            10  task0\n"
    ++ codes "idle             1\n"

-- after 8 ticks it has woken afresh, before a record tells of it
abbrev pub fresh_wide_text : List ℕ
fresh_wide_text =
    wide_header
    ++ codes "   0             1             4             4             4             1             0"
    ++ codes "            active             4             0             2             0             0             0             5            10  task0\n"
    ++ codes "idle             4\n"

-- or, until 7, to what it had
abbrev pub kept_wide_text : List ℕ
kept_wide_text =
    wide_header
    ++ codes "   0             1             4             4             4             1             0"
    ++ codes "            active             4             0             1             1             0             0             5            10  task0\n"
    ++ codes "idle             3\n"

-- a fault stands by its name
abbrev pub fault_wide_text : List ℕ
fault_wide_text =
    wide_header
    ++ codes "   0             0             1             -             -             0             0"
    ++ codes "             Break             -             0             1             0             0             0             5            10  task0\n"
    ++ codes "idle             0\n"
