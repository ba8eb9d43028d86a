-- Whose stops are met: what an attempt did is a task's own and not ahead, what comes is a task's own and ahead.
use Rattle.rt_remote.proofs.Common.{◌≡◌, ℕ, Bool, true, false, cond, Option, Some, None, List, refl, sym, option_map, MachineState, ahead_of, first_of, Action, Watched, Stop, Plain, AtTick, Interrupted, Begin, Told, Onward, Backward, told}
use Rattle.rt_history.specs.declared.record.AttemptOutcome.{AttemptOutcome}
use Rattle.rt_history.specs.declared.record.AttemptOutcome.TheVariants as outcomes
use Rattle.rt_history.specs.declared.record.Record.{Record}
use Rattle.rt_history.specs.declared.record.Record.TheVariants.{Idle, Busy}
use Rattle.rt_core.specs.declared.view.Next.{Next}
use Rattle.rt_core.specs.declared.view.Next.TheVariants as nexts
use Rattle.rt_core.specs.Next.{next_of}
use Rattle.rt_walk.specs.Jobs.{Stand}
use Rattle.rt_walk.specs.Met.{behind_of, ahead_at}
use Rattle.rt_points.specs.declared.point.BreakKind.{BreakKind}
use Rattle.rt_points.specs.Met.{break_at}
use Rattle.rt_packet.specs.declared.answer.stops.Stop.TheVariants.{Ended, Faulted, EndedBefore, FaultedBefore, Break, Watch, Happened, End}
use Rattle.rt_remote.specs.stops.Looked.{is_looked, is_stepped}
use Rattle.rt_points.specs.declared.events.Events.{Events}
use Rattle.rt_walk.specs.declared.events.Happening.{Happening}
use Rattle.rt_walk.specs.Events.{happens}
use Rattle.rt_remote.specs.stops.Ahead.{stop_by, done_of, asks_of, happened, event_on, behind_on, watched_at}
use Rattle.rt_remote.specs.stops.Onward.{break_on, watch_on, met_on, is_interrupted}
use Rattle.rt_remote.specs.stops.Backward.{here_back, left_back, behind_back}
use Rattle.rt_remote.specs.stops.Working.Ended.{is_ahead, is_own}

abbrev pub Behind : Option Told → Type 0
Behind None = Unit {0}
Behind (Some found) = (is_own found.stop ≡ true) × (is_ahead found.stop ≡ false)

abbrev pub Ahead : Option Told → Type 0
Ahead None = Unit {0}
Ahead (Some found) = (is_own found.stop ≡ true) × (is_ahead found.stop ≡ true)

-- ---- what an attempt did

plain : (task : ℕ) (b : Bool) → Behind (option_map (told task) (cond b (Some Plain) None))
plain task true = (refl, refl)
plain task false = tt

behind-by : (actions : List (Option Action)) (task : ℕ) (outcome : AttemptOutcome) → Behind (option_map (told task) (stop_by actions task outcome))
behind-by actions task outcomes.End = (refl, refl)
behind-by actions task (outcomes.Fault fault) = (refl, refl)
behind-by actions task outcomes.Next = plain task (is_stepped actions task)
behind-by actions task (outcomes.Write n) = plain task (is_stepped actions task)
behind-by actions task outcomes.WriteRefused = plain task (is_stepped actions task)
behind-by actions task (outcomes.Sleep t) = plain task (is_stepped actions task)
behind-by actions task outcomes.Yield = plain task (is_stepped actions task)
behind-by actions task (outcomes.Now t) = plain task (is_stepped actions task)
behind-by actions task (outcomes.Reserve x) = plain task (is_stepped actions task)
behind-by actions task outcomes.ReserveRefused = plain task (is_stepped actions task)

behind-cond : (b : Bool) (x : Option Told) → Behind x → Behind (cond b x None)
behind-cond true x is = is
behind-cond false x is = tt

behind-first : (x y : Option Told) → Behind x → Behind y → Behind (first_of x y)
behind-first None y first second = second
behind-first (Some found) y first second = first

behind-event : (happening : Option Happening) → Behind (option_map happened happening)
behind-event None = tt
behind-event (Some happening) = (refl, refl)

behind-done : (actions : List (Option Action)) (r : Record) → Behind (done_of actions r)
behind-done actions Idle = tt
behind-done actions (Busy attempt) =
    behind-cond (is_looked actions attempt.task) (option_map (told attempt.task) (stop_by actions attempt.task attempt.outcome)) (behind-by actions attempt.task attempt.outcome)

behind-on : (actions : List (Option Action)) (events : Events) (before : MachineState) (r : Record) (after : Stand) → Behind (behind_on actions events before r after)
behind-on actions events before r after =
    behind-first (done_of actions r) (event_on actions events before r after) (behind-done actions r) (behind-event (happens (asks_of actions events) before r after))

behind-at : (actions : List (Option Action)) (events : Events) (before : MachineState) (after : Stand) (next : Next) → Behind (ahead_at (λ task pc m. behind_on actions events before Idle after) after.machine next)
behind-at actions events before after nexts.Idle = tt
behind-at actions events before after (nexts.Run task pc) = behind-on actions events before Idle after

pub behind-own : (actions : List (Option Action)) (events : Events) (before : MachineState) (r : Record) (after : Stand) → Behind (behind_of (behind_on actions events) before r after)
behind-own actions events before Idle after = behind-at actions events before after (next_of after.machine)
behind-own actions events before (Busy attempt) after = behind-on actions events before (Busy attempt) after

-- ---- what comes

ahead-cond : (b : Bool) (x y : Option Told) → Ahead x → Ahead y → Ahead (cond b x y)
ahead-cond true x y first second = first
ahead-cond false x y first second = second

ahead-first : (x y : Option Told) → Ahead x → Ahead y → Ahead (first_of x y)
ahead-first None y first second = second
ahead-first (Some found) y first second = first

ahead-break : (task : ℕ) (kind : Option BreakKind) → Ahead (option_map (λ k. told task (Break k)) kind)
ahead-break task None = tt
ahead-break task (Some kind) = (refl, refl)

ahead-watch : (task : ℕ) (watched : Option Watched) → Ahead (option_map (λ w. told task (Watch w)) watched)
ahead-watch task None = tt
ahead-watch task (Some watched) = (refl, refl)

ahead-met : (way : Onward) (is_start : Bool) (task pc : ℕ) (m : MachineState) → Ahead (met_on way is_start task pc m)
ahead-met way is_start task pc m =
    ahead-cond (is_looked way.actions.now task) _ None
    (ahead-first (break_on way is_start task pc) (watch_on way is_start task pc m)
    (ahead-cond _ None _ tt (ahead-break task (break_at way.points.now task pc)))
    (ahead-cond _ None _ tt (ahead-watch task (watched_at way.points.now task pc m))))
    tt

ahead-at : (way : Onward) (is_start : Bool) (m : MachineState) (next : Next) → Ahead (ahead_at (met_on way is_start) m next)
ahead-at way is_start m nexts.Idle = tt
ahead-at way is_start m (nexts.Run task pc) = ahead-met way is_start task pc m

pub ahead-own : (way : Onward) (is_start : Bool) (m : MachineState) → Ahead (ahead_of (met_on way is_start) m)
ahead-own way is_start m = ahead-at way is_start m (next_of m)

here-at : (way : Backward) (m : MachineState) (next : Next) → Ahead (ahead_at (here_back way) m next)
here-at way m nexts.Idle = tt
here-at way m (nexts.Run task pc) = ahead-cond (is_looked way.actions.now task) _ None (ahead-break task (break_at way.points.now task pc)) tt

left-at : (way : Backward) (m : MachineState) (next : Next) → Ahead (ahead_at (left_back way) m next)
left-at way m nexts.Idle = tt
left-at way m (nexts.Run task pc) = ahead-cond (is_looked way.actions.now task) _ None (ahead-watch task (watched_at way.points.now task pc m)) tt

-- what is met at a tick of a way back is a task's own
abbrev pub Own : Option Told → Type 0
Own None = Unit {0}
Own (Some found) = is_own found.stop ≡ true

own-ahead : (x : Option Told) → Ahead x → Own x
own-ahead None own = tt
own-ahead (Some found) own = own.0

own-behind : (x : Option Told) → Behind x → Own x
own-behind None own = tt
own-behind (Some found) own = own.0

own-cond : (b : Bool) (x : Option Told) → Own x → Own (cond b x None)
own-cond true x own = own
own-cond false x own = tt

own-first : (x y : Option Told) → Own x → Own y → Own (first_of x y)
own-first None y first second = second
own-first (Some found) y first second = first

event-at : (way : Backward) (before : MachineState) (after : Stand) (next : Next) → Behind (ahead_at (λ task pc m. behind_back way before Idle after) after.machine next)
event-at way before after nexts.Idle = tt
event-at way before after (nexts.Run task pc) = behind-event (happens (asks_of way.actions.now way.events.now) before Idle after)

event-own : (way : Backward) (before : MachineState) (r : Record) (after : Stand) → Behind (behind_of (behind_back way) before r after)
event-own way before Idle after = event-at way before after (next_of after.machine)
event-own way before (Busy attempt) after = behind-event (happens (asks_of way.actions.now way.events.now) before (Busy attempt) after)

pub back-own : (way : Backward) (here : Stand) (left : MachineState) (r : Record) (b c d e : Bool)
    → Own (first_of (cond b (ahead_of (here_back way) here.machine) None) (cond c (first_of (cond d (ahead_of (left_back way) left) None) (cond e (behind_of (behind_back way) left r here) None)) None))
back-own way here left r b c d e =
    own-first _ _ (own-cond b _ (own-ahead _ (here-at way here.machine (next_of here.machine))))
    (own-cond c _ (own-first _ _ (own-cond d _ (own-ahead _ (left-at way left (next_of left)))) (own-cond e _ (own-behind _ (event-own way left r here)))))

-- ---- none of them is an interrupt

pub own-goes : (stop : Stop) → is_own stop ≡ true → is_interrupted stop ≡ false
own-goes Plain own = refl
own-goes Ended own = refl
own-goes (Faulted fault) own = refl
own-goes EndedBefore own = refl
own-goes (FaultedBefore fault) own = refl
own-goes (Break kind) own = refl
own-goes (Watch watched) own = refl
own-goes (Happened event job) own = refl
own-goes AtTick own = refl
own-goes Interrupted own = sym own
own-goes Begin own = refl
own-goes End own = refl
