-- Where no event is asked for, none is told.
use Rattle.rt_remote.proofs.Common.{◌≡◌, Bool, false, List, Option, Some, None, refl, ap, ◌∙◌, option_map, MachineState, first_of, Action, Onward, Backward, Told}
use Rattle.std.specs.List.{list_any}
use Rattle.std.proofs.lemmas.Bool.{and_right}
use Rattle.std.proofs.lemmas.Grind.{not_there}
use Rattle.rt_history.specs.declared.record.Attempt.{Attempt}
use Rattle.rt_history.specs.declared.record.Record.{Record}
use Rattle.rt_history.specs.declared.record.Record.TheVariants as records
use Rattle.rt_history.specs.declared.record.Entry.{Entry}
use Rattle.rt_history.specs.declared.record.Entry.TheVariants.{Busy, Idle}
use Rattle.rt_core.specs.declared.view.Next.{Next}
use Rattle.rt_core.specs.declared.view.Next.TheVariants as nexts
use Rattle.rt_core.specs.Next.{next_of}
use Rattle.rt_points.specs.declared.events.Events.{Events}
use Rattle.rt_points.specs.Events.{asks, any_asked}
use Rattle.rt_points.specs.declared.points.Breaking.{Breaking}
use Rattle.rt_walk.specs.declared.events.Happening.{Happening}
use Rattle.rt_walk.proofs.EventLemmas.{happens-none, asked-none}
use Rattle.rt_walk.specs.Jobs.{Stand}
use Rattle.rt_walk.specs.Met.{ahead_at, Meets}
use Rattle.rt_remote.specs.stops.Looked.{is_looked, is_step}
use Rattle.rt_remote.specs.stops.Ahead.{done_of, asks_of, happened, event_on, behind_on}
use Rattle.rt_remote.specs.stops.Backward.{behind_back}
use Rattle.rt_remote.specs.stops.Working.Looks.{BreaksAlone}
use Rattle.rt_remote.specs.stops.Working.Stepped.{may_stop}
use Rattle.rt_remote.proofs.stops.LookedLemmas.{settled, passed, passed_alone}

pub on-none : (actions : List (Option Action)) (events : Events) (before : MachineState) (r : Record) (after : Stand) → any_asked events ≡ false → event_on actions events before r after ≡ None
on-none actions events before r after none =
    ap (λ (o : Option Happening). option_map happened o)
    (happens-none (asks_of actions events) (λ event task. and_right (is_looked actions task) (asks events event task) (asked-none events event task none)) before r after)

or-none : (x : Option Told) → first_of x None ≡ x
or-none None = refl
or-none (Some told) = refl

pub done-alone : (actions : List (Option Action)) (events : Events) (before : MachineState) (r : Record) (after : Stand) → event_on actions events before r after ≡ None
    → behind_on actions events before r after ≡ done_of actions r
done-alone actions events before r after none = ap (first_of (done_of actions r)) none ∙ or-none (done_of actions r)

-- the same of a way back
nothing-at : (way : Backward) (before : MachineState) (after : Stand) (next : Next) → any_asked way.events.now ≡ false → ahead_at (λ task pc m. behind_back way before records.Idle after) after.machine next ≡ None
nothing-at way before after nexts.Idle none = refl
nothing-at way before after (nexts.Run task pc) none = on-none way.actions.now way.events.now before records.Idle after none

pub meets-none : (way : Backward) (m : MachineState) (entry : Entry) (after : Stand) → any_asked way.events.now ≡ false → Meets (behind_back way) m entry after None
meets-none way m (Busy t attempt) after none = on-none way.actions.now way.events.now m (records.Busy attempt) after none
meets-none way m (Idle t n) after none = λ before. nothing-at way before after (next_of after.machine) none

pub on-alone : (way : Onward) (breaking : Breaking) (before : MachineState) (r : Record) (after : Stand) → ∥ BreaksAlone breaking way ∥₁ → event_on way.actions.now way.events.now before r after ≡ None
on-alone way breaking before r after alone =
    settled (event_on way.actions.now way.events.now before r after) (λ some. not_there alone (λ a. some (on-none way.actions.now way.events.now before r after a.unasked)))

pub passed-on-alone : (way : Onward) (attempt : Attempt) (breaking : Breaking) → ∥ BreaksAlone breaking way ∥₁ → may_stop false attempt.outcome ≡ false → (m : MachineState) (n : Stand)
    → behind_on way.actions.now way.events.now m (records.Busy attempt) n ≡ None
passed-on-alone way attempt breaking alone none m n =
    done-alone way.actions.now way.events.now m (records.Busy attempt) n (on-alone way breaking m (records.Busy attempt) n alone) ∙ passed_alone way attempt breaking alone none

pub passed-on : (way : Onward) (attempt : Attempt) (steps : Bool) → any_asked way.events.now ≡ false → steps ≡ list_any is_step way.actions.now → may_stop steps attempt.outcome ≡ false → (m : MachineState) (n : Stand)
    → behind_on way.actions.now way.events.now m (records.Busy attempt) n ≡ None
passed-on way attempt steps unasked is none m n =
    done-alone way.actions.now way.events.now m (records.Busy attempt) n (on-none way.actions.now way.events.now m (records.Busy attempt) n unasked) ∙ passed way.actions.now attempt steps is none
