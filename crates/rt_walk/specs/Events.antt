-- Events of the legal history: what happens to a task at a tick, by the machine before the tick that ends there, its record, and how the machine and the jobs stand after.
use Rattle.std.specs.Prelude.{ℕ, zero, suc, ◌+◌, ◌-◌, min, ◌==◌, ◌&&◌, not, nat_eq, nat_lt, nat_le, ◌||◌, if◌then◌else◌, Bool, true, false, length, slice_get, List, Option, Some, None}
use Rattle.std.specs.Option.{option_eq, option_map, option_map_or}
use Rattle.rt_history.specs.declared.mode.Mode.{Mode}
use Rattle.rt_history.specs.declared.mode.Mode.TheVariants.{Active, Asleep}
use Rattle.rt_history.specs.declared.record.Attempt.{Attempt}
use Rattle.rt_history.specs.declared.record.AttemptOutcome.{AttemptOutcome}
use Rattle.rt_history.specs.declared.record.AttemptOutcome.TheVariants as outcomes
use Rattle.rt_history.specs.declared.record.Record.{Record}
use Rattle.rt_history.specs.declared.record.Record.TheVariants as records
use Rattle.rt_history.specs.Serving.{mode_after}
use Rattle.rt_history.specs.Job.{ends_job}
use Rattle.rt_history.specs.MachineState.{MachineState}
use Rattle.rt_core.specs.declared.view.Next.{Next}
use Rattle.rt_core.specs.declared.view.Next.TheVariants.{Idle, Run}
use Rattle.rt_core.specs.Next.{next_of}
use Rattle.rt_points.specs.declared.events.Event.{Event}
use Rattle.rt_points.specs.declared.events.Event.TheVariants.{Wake, Dispatch, Postponed, Finish, Over, Fault}
use Rattle.rt_history.specs.OwnPart.{TaskState}
use Rattle.rt_walk.specs.declared.jobs.OpenJob.{OpenJob}
use Rattle.rt_walk.specs.Jobs.{Stand}
use Rattle.rt_walk.specs.declared.events.Deadline.{Deadline}
use Rattle.rt_walk.specs.declared.events.Happening.{Happening}
use Rattle.rt_walk.specs.declared.events.Noted.{Noted}
use Rattle.rt_walk.specs.Met.{first_of}

-- whether a task of this mode is asleep until the tick after this, or, where none is given, active
abbrev pub is_until : Option ℕ → Mode → Bool
is_until (Some u) (Asleep w) = w == u + 1
is_until None Active = true
is_until _ _ = false

-- whether a task stands so
abbrev pub stands : Option ℕ → MachineState → ℕ → Bool
stands until m i = option_map_or (λ s. is_until until s.serving.mode) (slice_get m.tasks i) false

-- the least of n numbers from i on that is such
abbrev pub least_such : (ℕ → Bool) → ℕ → ℕ → Option ℕ
least_such is_such i zero = None
least_such is_such i (suc n) = if is_such i then Some i else least_such is_such (i + 1) n

-- the least task that stands so, of those of which wakes are asked for
abbrev pub least_woken : (Event → ℕ → Bool) → Option ℕ → MachineState → Option ℕ
least_woken asks until m = least_such (λ i. asks Wake i && stands until m i) 0 (length m.tasks)

-- the deadline of a task
abbrev pub deadline_of : MachineState → ℕ → ℕ
deadline_of m i = option_map_or (λ s. s.serving.account.d) (slice_get m.tasks i) 0

-- the task that a tick is to be of, and its deadline before
abbrev pub named_by : MachineState → Next → Option Deadline
named_by m Idle = None
named_by m (Run task pc) = Some (record { task = task; deadline = deadline_of m task })

-- what is kept of the machine before a tick: of the tasks that are asleep until the next, the least that is asked for, and the task of the tick
abbrev pub noted_of : (Event → ℕ → Bool) → MachineState → Noted
noted_of asks m = record { sleeper = least_woken asks (Some m.tick) m; named = named_by m (next_of m); tick = m.tick }

-- what happens to a task, and to which of its jobs
abbrev pub happening : Event → Option ℕ → ℕ → Happening
happening event job task = record { event = event; task = task; job = job }

abbrev pub if_asked : Bool → Event → ℕ → Option Happening
if_asked is_so event task = if is_so then Some (happening event None task) else None

-- the number of a task's open job
abbrev pub open_number : List OpenJob → ℕ → ℕ
open_number jobs i = option_map_or (λ job. job.number) (slice_get jobs i) 0

-- the lesser task, as far as there are any
abbrev pub lesser : Option ℕ → Option ℕ → Option ℕ
lesser None b = b
lesser (Some a) None = Some a
lesser (Some a) (Some b) = Some (min a b)

-- Wake: of the tasks that were asleep until this tick, and the task of the record, which fell asleep until this tick, the least
abbrev pub own_wake : (Event → ℕ → Bool) → ℕ → Attempt → Option ℕ
own_wake asks u attempt = if asks Wake attempt.task && is_until (Some u) (mode_after u attempt.outcome) then Some attempt.task else None

abbrev pub woken : (Event → ℕ → Bool) → Noted → Attempt → Option Happening
woken asks noted attempt = option_map (happening Wake None) (lesser noted.sleeper (own_wake asks noted.tick attempt))

-- Dispatch: another task goes on than that of the last tick, if it was one's
abbrev pub dispatched_by : (Event → ℕ → Bool) → Option ℕ → Next → Option Happening
dispatched_by asks last Idle = None
dispatched_by asks last (Run task pc) = if_asked (asks Dispatch task && not (option_eq nat_eq last (Some task))) Dispatch task

-- Postponed: the task of the tick goes on, and its deadline is later than before
abbrev pub is_active : Mode → Bool
is_active Active = true
is_active _ = false

abbrev pub postponed_by : (Event → ℕ → Bool) → ℕ → Attempt → MachineState → Option Deadline → Option Happening
postponed_by asks u attempt after None = None
postponed_by asks u attempt after (Some named) =
    if_asked (asks Postponed named.task && (is_active (mode_after u attempt.outcome) && nat_lt named.deadline (deadline_of after named.task))) Postponed named.task

-- Finish: its record is the last of its job, the one before that which is open then
abbrev pub finished : (Event → ℕ → Bool) → Attempt → List OpenJob → Option Happening
finished asks attempt jobs =
    if asks Finish attempt.task && ends_job attempt.outcome then Some (happening Finish (Some (open_number jobs attempt.task - 1)) attempt.task) else None

-- Fault: it faulted
abbrev pub is_fault : AttemptOutcome → Bool
is_fault (outcomes.Fault fault) = true
is_fault _ = false

abbrev pub faulted : (Event → ℕ → Bool) → Attempt → Option Happening
faulted asks attempt = if_asked (asks Fault attempt.task && is_fault attempt.outcome) Fault attempt.task

abbrev pub done : (Event → ℕ → Bool) → Attempt → List OpenJob → Option Happening
done asks attempt jobs = first_of (finished asks attempt jobs) (faulted asks attempt)

-- Over: an active task's job is open a period after its release, or more where it is the open one only from this attempt on
abbrev pub passes : Bool → ℕ → ℕ → ℕ → Bool
passes has_ended u release period = nat_le release u && ((u - release == period) || (has_ended && nat_lt period (u - release)))

abbrev pub is_over : Bool → ℕ → TaskState → OpenJob → Bool
is_over has_ended u s job = is_active s.serving.mode && passes has_ended u job.release s.serving.account.p

abbrev pub has_ended : Attempt → ℕ → Bool
has_ended attempt i = (attempt.task == i) && ends_job attempt.outcome

abbrev pub over_by : Bool → ℕ → Option TaskState → Option OpenJob → Bool
over_by has_ended u (Some s) (Some job) = is_over has_ended u s job
over_by has_ended u _ _ = false

abbrev pub is_over_at : Attempt → Stand → ℕ → Bool
is_over_at attempt after i = over_by (has_ended attempt i) after.machine.tick (slice_get after.machine.tasks i) (slice_get after.jobs i)

abbrev pub over_task : (Event → ℕ → Bool) → Attempt → Stand → Option ℕ
over_task asks attempt after = least_such (λ i. asks Over i && is_over_at attempt after i) 0 (length after.machine.tasks)

abbrev pub over : (Event → ℕ → Bool) → Attempt → Stand → Option Happening
over asks attempt after = option_map (λ i. happening Over (Some (open_number after.jobs i)) i) (over_task asks attempt after)

-- the first of these that is asked for, by what was noted
abbrev pub happens_behind : (Event → ℕ → Bool) → Noted → Attempt → Stand → Option Happening
happens_behind asks noted attempt after =
    first_of (woken asks noted attempt)
    (first_of (dispatched_by asks (Some attempt.task) (next_of after.machine))
    (first_of (postponed_by asks noted.tick attempt after.machine noted.named)
    (first_of (done asks attempt after.jobs) (over asks attempt after))))

-- Behind an idle tick, before which no task was active, each active one has woken. So no job is over there: no period is 0.
abbrev pub happens_idle : (Event → ℕ → Bool) → MachineState → Option Happening
happens_idle asks after = first_of (option_map (happening Wake None) (least_woken asks None after)) (dispatched_by asks None (next_of after))

-- what happens at the end of a tick that is asked for, by the machine before it, its record, and how the machine and the jobs stand after
abbrev pub happens : (Event → ℕ → Bool) → MachineState → Record → Stand → Option Happening
happens asks before (records.Busy attempt) after = happens_behind asks (noted_of asks before) attempt after
happens asks before records.Idle after = happens_idle asks after.machine
