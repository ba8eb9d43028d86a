-- Which sets can be loaded, and why one can't, in the order of the tests.
use Rattle.std.specs.Prelude.{◌≡◌, ℕ, ◌+◌, ◌%◌, ◌==◌, ◌&&◌, nat_le, nat_lt, Bool, if◌then◌else◌, List, [], ◌∷◌, length, Option, Some, None, Result, Ok, Err}
use Rattle.rt_words.specs.Base.{base}
use Rattle.rt_admit.specs.declared.fault.AdmitFault.{AdmitFault}
use Rattle.rt_admit.specs.declared.admission.Admission.{Admission}
use Rattle.rt_admit.specs.declared.admission.Admission.TheVariants.{Required}
use Rattle.rt_admit.specs.Refusal.{refusal_under}
use Rattle.rt_image.specs.SystemFile.{SetTask, TaskSet}
use Rattle.rt_history.specs.Admitted.{task_params}
use Rattle.rt_history.specs.MachineState.{MachineState}
use Rattle.rt_history.specs.Legal.{state_at}
use Rattle.rt_core.specs.declared.fault.LoadFault.{LoadFault}
use Rattle.rt_core.specs.declared.fault.LoadFault.TheVariants.{Memory, Admit, ImageTooBig, BadEntry}

-- a task may begin at this address of a RAM of `size` bytes: it is a multiple of 4 whose word is in RAM
abbrev pub is_entry : ℕ → ℕ → Bool
is_entry size entry = (entry % 4 == 0) && nat_le base entry && nat_le (entry + 4) (base + size)

-- why task i can't be loaded
abbrev pub task_fault : ℕ → SetTask → Option LoadFault
task_fault i t =
    if nat_lt t.ram (length t.object.bytes) then Some (ImageTooBig i)
    else (if is_entry t.ram t.object.entry then None else Some (BadEntry i))

-- the first, or where there is none the second
abbrev pub first_of : Option LoadFault → Option LoadFault → Option LoadFault
first_of (Some fault) other = Some fault
first_of None other = other

-- why the first of these tasks that can't be loaded can't be, where the first of all is task i
abbrev pub first_task_fault : ℕ → List SetTask → Option LoadFault
first_task_fault i [] = None
first_task_fault i (t ∷ ts) = first_of (task_fault i t) (first_task_fault (i + 1) ts)

abbrev pub unless_refused : Option AdmitFault → Option LoadFault → Option LoadFault
unless_refused (Some fault) other = Some (Admit fault)
unless_refused None other = other

-- why a set can't be loaded where admission is required, and where it is waived: its refusal comes first
abbrev pub load_fault_under : Admission → TaskSet → Option LoadFault
load_fault_under admission s = unless_refused (refusal_under admission s.hyper (task_params s.tasks)) (first_task_fault 0 s.tasks)

-- why a set can't be loaded
abbrev pub load_fault : TaskSet → Option LoadFault
load_fault s = load_fault_under Required s

-- what loading a set answers: a machine that stands at its tick 0, or why there is none
abbrev pub LoadsUnder : Admission → TaskSet → Result MachineState LoadFault → Type 0
LoadsUnder admission s (Ok m) = (load_fault_under admission s ≡ None) × (m ≡ state_at s 0)
LoadsUnder admission s (Err Memory) = Unit {0}
LoadsUnder admission s (Err fault) = load_fault_under admission s ≡ Some fault

abbrev pub Loads : TaskSet → Result MachineState LoadFault → Type 0
Loads s result = LoadsUnder Required s result

-- the same of a set that can be run, whatever its load
abbrev pub Begins : TaskSet → Result MachineState LoadFault → Type 0
Begins s (Ok m) = (first_task_fault 0 s.tasks ≡ None) × (m ≡ state_at s 0)
Begins s (Err Memory) = Unit {0}
Begins s (Err fault) = first_task_fault 0 s.tasks ≡ Some fault
