-- Rows of what the programs print of a run, of a file and of a certificate.
use Rattle.std.specs.Prelude.{ℕ, pos, Bool, false, List, [], ◌∷◌, ◌++◌, codes, Option, Some, None}
use Rattle.rt_isa.specs.declared.instruction.Ins.{Ins}
use Rattle.rt_isa.specs.declared.instruction.Ins.TheVariants.{Beq, Bne, Blt, Bge, Bltu, Bgeu, Sb, Sh, Sw, Fence, Ecall, Ebreak}
use Rattle.rt_exec.specs.declared.outcome.Fault.TheVariants.{LoadAccess}
use Rattle.rt_image.specs.ObjectFile.{ObjectValue}
use Rattle.rt_image.specs.declared.system.Version.TheVariants.{One}
use Rattle.rt_image.specs.SystemFile.{TaskSet}
use Rattle.rt_history.specs.Legal.{legal}
use Rattle.rt_certify.specs.declared.certificate.Certificate.{Certificate}
use Rattle.rt_certify.specs.declared.certificate.JobAt.{JobAt}
use Rattle.rt_certify.specs.declared.certificate.PlacedCertificate.{PlacedCertificate}
use Rattle.rt_certify.specs.Extremes.{FinishedJob}
use Rattle.rt_certify.specs.declared.certificate.NotCertified.{NotCertified}
use Rattle.rt_certify.specs.declared.certificate.Reason.{Reason}
use Rattle.rt_certify.specs.declared.certificate.Reason.TheVariants.{OverBudget, Yields, Asks, Faults, TooSoon}
use Rattle.rt_profile.specs.ProfileText.{profile_text}
use Rattle.rt_programs.specs.declared.question.Question.{Question}
use Rattle.rt_profile.specs.declared.form.ProfileForm.{ProfileForm}
use Rattle.rt_rows.specs.Sets.{task, busy, spelled_object}
use Rattle.rt_text_rows.specs.Names.{named}

-- lui x5,0x80000; addi x6,x0,5, and as `keep` sw x6,32(x5); lbu x7,32(x5); jalr x0,0(x1), which jumps out of RAM
abbrev pub motor : ObjectValue
motor = record (spelled_object (0x800002B7 ∷ 0x00500313 ∷ 0x0262A023 ∷ 0x0202C383 ∷ 0x00008067 ∷ [])) {
  labels = named 0x80000008 (codes "keep") ∷ named 0x80000000 (codes "motor") ∷ [];
}

abbrev pub spin : ObjectValue
spin = record (spelled_object busy) { labels = named 0x80000000 (codes "spin") ∷ [] }

-- 3 of 6 ticks, and 2 of 4: task 1 runs at 0, 1, 5, 6, 10 and 11
abbrev pub motor_and_spin : TaskSet
motor_and_spin = record {
  version = One;
  hyper = 12;
  tasks = record (task 3 6 []) { object = motor } ∷ record (task 2 4 []) { object = spin } ∷ [];
}

abbrev pub motor_trace : List ℕ
motor_trace =
    codes "0\t1\t80000000\tspin:spin\tjal x0,0x80000000\tpc=80000000\n"
    ++ codes "1\t1\t80000000\tspin:spin\tjal x0,0x80000000\tpc=80000000\n"
    ++ codes "2\t0\t80000000\tmotor:motor\tlui x5,0x80000\tx5=80000000\n"
    ++ codes "3\t0\t80000004\tmotor:motor+0x4\taddi x6,x0,5\tx6=00000005\n"
    ++ codes "4\t0\t80000008\tmotor:keep\tsw x6,32(x5)\t[80000020]=00000005\n"
    ++ codes "5\t1\t80000000\tspin:spin\tjal x0,0x80000000\tpc=80000000\n"
    ++ codes "6\t1\t80000000\tspin:spin\tjal x0,0x80000000\tpc=80000000\n"
    ++ codes "7\t0\t8000000c\tmotor:keep+0x4\tlbu x7,32(x5)\tx7=00000005, from 80000020\n"
    ++ codes "8\t0\t80000010\tmotor:keep+0x8\tjalr x0,0(x1)\tpc=00000000\n"
    ++ codes "9\t0\t00000000\tmotor:-\t-\tfault FetchAccess\n"
    ++ codes "10\t1\t80000000\tspin:spin\tjal x0,0x80000000\tpc=80000000\n"
    ++ codes "11\t1\t80000000\tspin:spin\tjal x0,0x80000000\tpc=80000000\n"

-- the five jobs of `soft`, with its idle stretches
abbrev pub soft_trace : List ℕ
soft_trace =
    codes "0\t0\t80000000\t-\taddi x17,x0,2\tx17=00000002\n"
    ++ codes "1\t0\t80000004\t-\taddi x10,x0,7\tx10=00000007\n"
    ++ codes "2\t0\t80000008\t-\taddi x11,x0,0\tx11=00000000\n"
    ++ codes "3\t0\t8000000c\t-\tecall\tsleep 7\n"
    ++ codes "4\tidle\t3\n"
    ++ codes "7\t0\t80000010\t-\tecall\tsleep 7\n"
    ++ codes "8\t0\t80000014\t-\tecall\tsleep 7\n"
    ++ codes "9\t0\t80000018\t-\taddi x17,x0,3\tx17=00000003\n"
    ++ codes "10\t0\t8000001c\t-\tecall\tyield\n"
    ++ codes "11\t0\t80000020\t-\taddi x17,x0,2\tx17=00000002\n"
    ++ codes "12\t0\t80000024\t-\taddi x10,x0,26\tx10=0000001a\n"
    ++ codes "13\t0\t80000028\t-\tecall\tsleep 26\n"
    ++ codes "14\tidle\t12\n"
    ++ codes "26\t0\t8000002c\t-\taddi x17,x0,3\tx17=00000003\n"
    ++ codes "27\t0\t80000030\t-\tecall\tyield\n"
    ++ codes "28\t0\t80000034\t-\taddi x17,x0,0\tx17=00000000\n"
    ++ codes "29\t0\t80000038\t-\tecall\tend\n"

-- what writes no register
abbrev pub without_target : List Ins
without_target =
    Beq 1 2 (pos 8) ∷ Bne 1 2 (pos 8) ∷ Blt 1 2 (pos 8) ∷ Bge 1 2 (pos 8) ∷ Bltu 1 2 (pos 8) ∷ Bgeu 1 2 (pos 8)
    ∷ Sb 1 2 (pos 8) ∷ Sh 1 2 (pos 8) ∷ Sw 1 2 (pos 8) ∷ Fence 1 2 0 ∷ Ecall ∷ Ebreak ∷ []

-- a profile of t ticks
abbrev pub profiled : ProfileForm → TaskSet → ℕ → List ℕ
profiled form set t = profile_text form set (legal set t)

-- the address out of RAM is in no part
abbrev pub motor_rows : List ℕ
motor_rows =
    codes "task       address         ticks       entered          most  name\n"
    ++ codes "   0             -             1             0             1  -\n"
    ++ codes "   0      80000000             2             1             2  motor\n"
    ++ codes "   0      80000008             3             1             3  keep\n"
    ++ codes "   1      80000000             6             6             6  spin\n"
    ++ codes "idle             0\n"

-- five jobs of 15 ticks, the longest of 5
abbrev pub soft_rows : List ℕ
soft_rows =
    codes "task       address         ticks       entered          most  name\n"
    ++ codes "   0             -            15             0             5  -\n"
    ++ codes "idle            15\n"

abbrev pub motor_callgrind : List ℕ
motor_callgrind =
    codes "# callgrind format\nversion: 1\ncreator: rt_sim\npositions: instr\nevents: Ticks\n"
    ++ codes "\nob=task0\nfl=task0\nfn=???\n0x00000000 1\nfn=motor\n0x80000000 1\n0x80000004 1\n"
    ++ codes "fn=keep\n0x80000008 1\n0x8000000c 1\n0x80000010 1\n"
    ++ codes "\nob=task1\nfl=task1\nfn=spin\n0x80000000 6\n"
    ++ codes "\ntotals: 12\n"

-- two jobs of one tick, two of four, and one of five
abbrev pub soft_needs : List ℕ
soft_needs =
    codes "task          from            to          jobs        within\n"
    ++ codes "   0             1             1             2             2\n"
    ++ codes "   0             4             4             2             4\n"
    ++ codes "   0             5             5             1             5\n"

abbrev pub motor_shown : List ℕ
motor_shown =
    codes "# version One\nhyper 12\n"
    ++ codes "task 3 6 0 64 task0.rti\n#   image 20 bytes, entry 80000000 motor, 2 symbols, weight 6\n"
    ++ codes "task 2 4 0 64 task1.rti\n#   image 4 bytes, entry 80000000 spin, 1 symbols, weight 6\n"

abbrev pub object_text : List ℕ
object_text = codes "# object\n#   image 20 bytes, entry 80000000 motor, 2 symbols\n80000000 motor\n80000008 keep\n"

-- so many jobs, the longest of 4 ticks, at least 9 apart
abbrev pub of_jobs : ℕ → Option ℕ → Option ℕ → Certificate
of_jobs jobs distance next = record { jobs = jobs; longest = 4; distance = distance; next = next }

abbrev pub job_of : ℕ → ℕ → JobAt
job_of job release = record { job = job; release = release }

abbrev finished : ℕ → ℕ → ℕ → Option ℕ → FinishedJob
finished number release ticks distance = record { number = number; release = release; ticks = ticks; distance = distance }

-- each fourth job has 19 ticks; they sleep until 20, 40, ..
abbrev pub worker_jobs : List FinishedJob
worker_jobs =
    finished 0 0 13 (Some 20) ∷ finished 1 20 10 (Some 20) ∷ finished 2 40 10 (Some 20) ∷ finished 3 60 19 (Some 20)
    ∷ finished 4 80 10 (Some 20) ∷ finished 5 100 10 (Some 20) ∷ finished 6 120 10 (Some 20) ∷ finished 7 140 19 (Some 20) ∷ []

-- these sleep until 20, 25 and 30, and the last one ends
abbrev pub nears_jobs : List FinishedJob
nears_jobs = finished 0 0 3 (Some 20) ∷ finished 1 20 2 (Some 5) ∷ finished 2 25 2 (Some 5) ∷ finished 3 30 4 None ∷ []

-- a question that asks for the jobs with a certificate's numbers, or doesn't
abbrev pub asking : Bool → Question
asking places = record { ram = 64; split = false; start = 0; limits = record { budget = 4; period = 9; periods = 1 }; jobs = 3; places = places }

-- job 2 is the longest
abbrev pub placed_at : Option JobAt → PlacedCertificate
placed_at distance = record { certificate = of_jobs 3 (Some 9) (Some 21); extremes = record { longest = Some (job_of 2 12); distance = distance } }

-- why the job 2 isn't certified
abbrev pub for_reason : Reason → NotCertified
for_reason reason = record { job = 2; pc = 0x8000000C; reason = reason }

abbrev pub reasons : List Reason
reasons = OverBudget 7 12 ∷ Yields ∷ Asks ∷ Faults LoadAccess ∷ TooSoon 7 9 None ∷ TooSoon 7 9 (Some 3) ∷ []

abbrev pub reason_texts : List (List ℕ)
reason_texts =
    codes "OverBudget job 2 pc 8000000c release 7 ticks 12"
    ∷ codes "Yields job 2 pc 8000000c"
    ∷ codes "Asks job 2 pc 8000000c"
    ∷ codes "Faults job 2 pc 8000000c LoadAccess"
    ∷ codes "TooSoon job 2 pc 8000000c release 7 sleep 9"
    ∷ codes "TooSoon job 2 pc 8000000c release 7 sleep 9 periods 3"
    ∷ []

-- the names of two tasks, and what is said where one of them is certified
abbrev pub pid_and_logger : List (List ℕ)
pid_and_logger = codes "pid" ∷ codes "logger" ∷ []

abbrev pub of_three_jobs : List ℕ
of_three_jobs =
    codes "0 pid certified 3 longest 4 distance 9 next 21\n1 logger excepted\n"
    ++ codes "the first 3 jobs of these tasks are answered in time in this set\n"

abbrev pub of_five_jobs : List ℕ
of_five_jobs =
    codes "0 pid excepted\n1 logger certified 1 longest 4 distance - ended\n"
    ++ codes "the first 5 jobs of these tasks are answered in time in this set\n"
