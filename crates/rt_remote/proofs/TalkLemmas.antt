-- What every request keeps, and so every session.
use Rattle.rt_remote.proofs.Common.{◌≡◌, ℕ, Option, refl, inl, inr, Bool, true, false, if◌then◌else◌, List, [], ◌∷◌, sym, ap, subst, ◌∙◌, TaskSet, MachineState, state_at, PositionState, WalkState, RemoteState, Action, Interrupted, Told, told, GoesTo, RunsOn, GoesBackTo, GoesOneBack}
use Rattle.std.proofs.Common.{◌-◌, ◌⊎◌, Result, Ok, Err}
use Rattle.rt_command.specs.declared.refusal.Refusal.{Refusal}
use Rattle.rt_walk.specs.Jobs.{first_jobs}
use Rattle.rt_walk.specs.Position.{IsReached}
use Rattle.rt_walk.specs.Walking.{IsWalk}
use Rattle.rt_walk.proofs.GoingLemmas.{begins}
use Rattle.rt_debug.specs.Talk.{IsFaithful}
use Rattle.rt_points.specs.declared.point.Point.{Point}
use Rattle.rt_packet.specs.declared.request.ids.Tasks.{Tasks}
use Rattle.rt_packet.specs.declared.request.ids.Tasks.TheVariants as tasks
use Rattle.rt_packet.specs.declared.request.request.Selected.{Selected}
use Rattle.rt_packet.specs.declared.request.request.Selected.TheVariants as of
use Rattle.rt_packet.specs.declared.request.request.Request.{Request}
use Rattle.rt_packet.specs.declared.request.request.Request.TheVariants as requests
use Rattle.rt_packet.specs.declared.request.request.Request.TheVariants.{Supported}
use Rattle.rt_packet.specs.declared.request.monitor.Monitor.{Monitor}
use Rattle.rt_packet.specs.declared.request.monitor.Monitor.TheVariants as lines
use Rattle.rt_remote.specs.Remote.{opening, without_interrupt}
use Rattle.rt_remote.specs.LetsGo.{without_task}
use Rattle.rt_remote.specs.Chosen.{continued_back, resumed_by, continued, stepped_too, stepped}
use Rattle.rt_remote.specs.Said.{Said}
use Rattle.rt_points.specs.declared.events.Event.{Event}
use Rattle.rt_remote.specs.Remote.{machine}
use Rattle.rt_remote.specs.Monitors.{Monitors, AsksEvent}
use Rattle.rt_debug.specs.Whose.{meant}
use Rattle.rt_remote.specs.declared.selection.Direction.{Direction}
use Rattle.rt_remote.specs.declared.selection.Direction.TheVariants.{On, Back}
use Rattle.rt_remote.specs.Runs.{IfAny, UnlessKept, Halts, halted, LacksMemory, RunsBack, StepsOneBack}
use Rattle.rt_remote.specs.Selects.{selected}
use Rattle.rt_remote.specs.Places.{InsertsPoint, is_address}
use Rattle.rt_remote.specs.Executes.{Executes}
use Rattle.rt_remote.specs.Talk.{Talks, interrupted_if}

abbrev Begins : RemoteState → Type 0
Begins state = IsReached state.walk.first state.walk.shown

-- the first place stays, and what is shown is reached from there
abbrev Keeps : RemoteState → RemoteState → Type 0
Keeps old new = (new.walk.first ≡ old.walk.first) × Begins new

stays : (old new : RemoteState) → Begins old → new.walk ≡ old.walk → Keeps old new
stays old new reached is = (ap (λ (w : WalkState). w.first) is, subst (λ (w : WalkState). IsReached w.first w.shown) (sym is) reached)

stands : (old new : RemoteState) → Begins old → new ≡ old → Keeps old new
stands old new reached is = stays old new reached (ap (λ (s : RemoteState). s.walk) is)

walks : (old new : RemoteState) → IsWalk old.walk new.walk → Keeps old new
walks old new walk = (walk.first, walk.reached)

if_any : (any : Bool) (old new : RemoteState) (said : Said) (Run : Type 0) → Begins old → (Run → Keeps old new) → IfAny any old said new Run → Keeps old new
if_any true old new said Run reached keeps did = keeps did
if_any false old new said Run reached keeps did = stands old new reached did.0

unless_kept : (held : Bool) (old new : RemoteState) (Halt Run : Type 0) → (Halt → Keeps old new) → (Run → Keeps old new) → UnlessKept held Halt Run → Keeps old new
unless_kept true old new Halt Run halts goes did = halts did
unless_kept false old new Halt Run halts goes did = goes did

halts : (old new : RemoteState) (direction : Direction) (told : Told) (said : Said) → Begins old → Halts old direction told said new → Keeps old new
halts old new direction told said reached did = stays old new reached (ap (λ (s : RemoteState). s.walk) did.stands)

runs_on : (old new : RemoteState) (actions : List (Option Action)) (paused : Bool) (said : Said) → Begins old → RunsOn old actions paused said new → Keeps old new
runs_on old new actions paused said reached did = if_any _ old new said _ reached (unless_kept old.has_interrupt old new _ (GoesTo old actions paused said new)
    (halts old new On (halted old actions) said reached) (λ goes. walks old new goes.stops.walk)) did

runs_back : (old new : RemoteState) (paused : Bool) (said : Said) → Begins old → RunsBack old paused said new → Keeps old new
runs_back old new paused said reached did = if_any _ old new said _ reached
    (unless_kept old.has_interrupt old new _ (GoesBackTo old (continued_back old) paused said new ⊎ LacksMemory old said new) (halts old new Back (halted old (continued_back old)) said reached) (λ goes. elim goes [
      | inl back ↦ walks old new back.stops.walk
      | inr lacks ↦ stands old new reached lacks.0
    ])) did

steps_back : (old new : RemoteState) (said : Said) → Begins old → StepsOneBack old said new → Keeps old new
steps_back old new said reached did = if_any _ old new said _ reached
    (unless_kept old.has_interrupt old new _ (GoesOneBack old said new ⊎ LacksMemory old said new) (halts old new Back (told (stepped old) Interrupted) said reached) (λ goes. elim goes [
      | inl back ↦ walks old new back.stops.walk
      | inr lacks ↦ stands old new reached lacks.0
    ])) did

does : (may : Bool) (old next new : RemoteState) → next.walk ≡ old.walk → new ≡ (if may then next else old) → new.walk ≡ old.walk
does true old next new same is = ap (λ (s : RemoteState). s.walk) is ∙ same
does false old next new same is = ap (λ (s : RemoteState). s.walk) is

selects : (which : Selected) (ids : Tasks) (old : RemoteState) → (selected which ids old).walk ≡ old.walk
selects of.Shown tasks.All old = refl
selects of.Shown (tasks.One i) old = refl
selects of.Resumed ids old = refl

inserts : (may : Bool) (old new : RemoteState) (point : Point) (said : Said) → InsertsPoint may old point said new → new.walk ≡ old.walk
inserts true old new point said did = ap (λ (s : RemoteState). s.walk) did.2
inserts false old new point said did = ap (λ (s : RemoteState). s.walk) did.0

asks : (task : Result (Option ℕ) Refusal) (old new : RemoteState) (event : Event) (is_asked : Bool) (said : Said) → AsksEvent task old event is_asked said new → new.walk ≡ old.walk
asks (Ok task) old new event is_asked said did = ap (λ (s : RemoteState). s.walk) did.0
asks (Err refusal) old new event is_asked said did = ap (λ (s : RemoteState). s.walk) did.0

monitors : (old new : RemoteState) (line : Monitor) (said : Said) → Monitors old line said new → new.walk ≡ old.walk
monitors old new (lines.At tick) said did = ap (λ (s : RemoteState). s.walk) did.0
monitors old new lines.Asked said did = ap (λ (s : RemoteState). s.walk) did.0
monitors old new (lines.Events event whose is_asked) said did = asks (meant old.names (machine old) whose) old new event is_asked said did
monitors old new lines.Help said did = ap (λ (s : RemoteState). s.walk) did.0
monitors old new (lines.Look command) said did = ap (λ (s : RemoteState). s.walk) did.0
monitors old new (lines.Unknown want) said did = ap (λ (s : RemoteState). s.walk) did.0

removes : (may : Bool) (old next : RemoteState) → next.walk ≡ old.walk → (if may then next else old).walk ≡ old.walk
removes true old next same = same
removes false old next same = refl

executes : (old new : RemoteState) (request : Request) (paused : Bool) (said : Said) → Begins old → Executes old request paused said new → Keeps old new
executes old new (requests.Supported has) paused said reached did = stays old new reached (ap (λ (s : RemoteState). s.walk) did.0)
executes old new requests.LastStop paused said reached did = stands old new reached did.0
executes old new requests.Actions paused said reached did = stands old new reached did.0
executes old new (requests.Resume actions) paused said reached did = if_any _ old new said (RunsOn old (resumed_by old actions) paused said new) reached (λ runs. runs_on old new (resumed_by old actions) paused said reached runs) did
executes old new requests.Continue paused said reached did = runs_on old new (continued old) paused said reached did
executes old new requests.Step paused said reached did = runs_on old new (stepped_too old) paused said reached did
executes old new requests.BackStep paused said reached did = steps_back old new said reached did
executes old new requests.BackContinue paused said reached did = runs_back old new paused said reached did
executes old new (requests.Select which ids) paused said reached did = stays old new reached (does _ old (selected which ids old) new (selects which ids old) did.0)
executes old new (requests.IsThere ids) paused said reached did = stands old new reached did.0
executes old new requests.Current paused said reached did = stands old new reached did.0
executes old new requests.FirstTasks paused said reached did = stands old new reached did.0
executes old new requests.MoreTasks paused said reached did = stands old new reached did.0
executes old new (requests.TaskLine ids) paused said reached did = stands old new reached did.0
executes old new requests.Attached paused said reached did = stands old new reached did.0
executes old new (requests.Description offset count) paused said reached did = stands old new reached did.0
executes old new requests.OtherAnnex paused said reached did = stands old new reached did.0
executes old new (requests.Monitor line) paused said reached did = stays old new reached (monitors old new _ said did)
executes old new requests.Registers paused said reached did = stands old new reached did.0
executes old new (requests.Register n) paused said reached did = stands old new reached did.0
executes old new (requests.Memory address count) paused said reached did = stands old new reached did.0
executes old new requests.Write paused said reached did = stands old new reached did.0
executes old new (requests.Insert spot) paused said reached did = stays old new reached (inserts _ old new _ said did)
executes old new (requests.Remove spot) paused said reached did = stays old new reached (ap (λ (s : RemoteState). s.walk) did.0 ∙ removes (is_address spot) old _ refl)
executes old new requests.DetachAll paused said reached did = stays old new reached (does true old _ new refl did.0)
executes old new (requests.Detach n) paused said reached did = stays old new reached (does _ old (without_interrupt (without_task (n - 1) old)) new refl did.0)
executes old new requests.Kill paused said reached did = stays old new reached (ap (λ (s : RemoteState). s.walk) did.0)
executes old new requests.Malformed paused said reached did = stands old new reached did.0
executes old new requests.Unknown paused said reached did = stands old new reached did.0

comes : (came : Bool) (old : RemoteState) → (interrupted_if came old).walk ≡ old.walk
comes true old = refl
comes false old = refl

talks : (old new : RemoteState) (requests : List Request) → Begins old → Talks old requests new → Keeps old new
talks old new [] reached talk = stands old new reached talk
talks old new (request ∷ requests) reached talk =
    let same = comes talk.0 old in
    let one = executes (interrupted_if talk.0 old) talk.3 request talk.1 talk.2 (subst (λ (w : WalkState). IsReached w.first w.shown) (sym same) reached) talk.4 in
    let others = talks talk.3 new requests one.1 talk.5 in
    (others.0 ∙ one.0 ∙ ap (λ (w : WalkState). w.first) same, others.1)

pub faithful : (set : TaskSet) (names : List (List ℕ)) (machine : MachineState) (requests : List Request) (new : RemoteState) → machine ≡ state_at set machine.tick
    → Talks (opening names machine) requests new → IsFaithful set machine new.walk.shown
faithful set names machine requests new is talk =
    let kept = talks (opening names machine) new requests (begins machine (first_jobs machine)) talk in
    let reached = subst (λ (p : PositionState). IsReached p new.walk.shown) kept.0 kept.1 in
    record { later = reached.later; stands = reached.stands set is; kept = reached.kept set is }
