-- Which tasks are stepped, and of which a stop is told.
use Rattle.rt_remote.proofs.Common.{◌≡◌, ℕ, zero, suc, Bool, true, false, true≢false, cond, List, [], ◌∷◌, Option, Some, None, refl, sym, ap, ◌∙◌, Action, option_map, Stop, Plain, Onward, Told, told, done_by}
use Rattle.std.specs.List.{list_any}
use Rattle.std.proofs.lemmas.Bool.{or_parts}
use Rattle.std.proofs.lemmas.Grind.{not_there}
use Rattle.rt_packet.specs.declared.request.actions.Action.TheVariants.{Continue, Step}
use Rattle.rt_history.specs.declared.record.Attempt.{Attempt}
use Rattle.rt_history.specs.declared.record.AttemptOutcome.{AttemptOutcome}
use Rattle.rt_history.specs.declared.record.AttemptOutcome.TheVariants as outcomes
use Rattle.rt_points.specs.declared.points.Breaking.{Breaking}
use Rattle.rt_remote.specs.stops.Working.Looks.{BreaksAlone}
use Rattle.rt_remote.specs.stops.Looked.{is_looked, is_stepped, is_step}
use Rattle.rt_remote.specs.stops.Ahead.{stop_by}
use Rattle.rt_remote.specs.stops.Working.Stepped.{may_stop}

-- where no action is a step, no task is stepped
pub none_stepped : (actions : List (Option Action)) (task : ℕ) → list_any is_step actions ≡ false → is_stepped actions task ≡ false
none_stepped [] task none = refl
none_stepped (None ∷ actions) zero none = refl
none_stepped (Some Continue ∷ actions) zero none = refl
none_stepped (Some Step ∷ actions) zero none = absurd (true≢false none)
none_stepped (a ∷ actions) (suc task) none = none_stepped actions task (or_parts (is_step a) (list_any is_step actions) none).1

-- an attempt that may stop none does
step-none : (steps : Bool) (b : Bool) → (steps ≡ false → b ≡ false) → steps ≡ false → ◌≡◌ {A = Option Stop} (cond b (Some Plain) None) None
step-none steps b unstepped none = ap (λ (c : Bool). cond c (Some Plain) None) (unstepped none)

stop-none : (actions : List (Option Action)) (task : ℕ) (outcome : AttemptOutcome) (steps : Bool) → (steps ≡ false → is_stepped actions task ≡ false) → may_stop steps outcome ≡ false → stop_by actions task outcome ≡ None
stop-none actions task outcomes.End steps unstepped none = absurd (true≢false none)
stop-none actions task (outcomes.Fault fault) steps unstepped none = absurd (true≢false none)
stop-none actions task outcomes.Next steps unstepped none = step-none steps (is_stepped actions task) unstepped none
stop-none actions task (outcomes.Write n) steps unstepped none = step-none steps (is_stepped actions task) unstepped none
stop-none actions task outcomes.WriteRefused steps unstepped none = step-none steps (is_stepped actions task) unstepped none
stop-none actions task (outcomes.Sleep t) steps unstepped none = step-none steps (is_stepped actions task) unstepped none
stop-none actions task outcomes.Yield steps unstepped none = step-none steps (is_stepped actions task) unstepped none
stop-none actions task (outcomes.Now t) steps unstepped none = step-none steps (is_stepped actions task) unstepped none
stop-none actions task (outcomes.Reserve x) steps unstepped none = step-none steps (is_stepped actions task) unstepped none
stop-none actions task outcomes.ReserveRefused steps unstepped none = step-none steps (is_stepped actions task) unstepped none

if-none : (b : Bool) (x : Option Told) → x ≡ None → cond b x None ≡ None
if-none true x none = none
if-none false x none = refl

pub passed : (actions : List (Option Action)) (attempt : Attempt) (steps : Bool) → steps ≡ list_any is_step actions → may_stop steps attempt.outcome ≡ false → done_by actions attempt ≡ None
passed actions attempt steps is none =
    if-none (is_looked actions attempt.task) (option_map (told attempt.task) (stop_by actions attempt.task attempt.outcome))
    (ap (λ (stop : Option Stop). option_map (told attempt.task) stop) (stop-none actions attempt.task attempt.outcome steps (λ unstepped. none_stepped actions attempt.task (sym is ∙ unstepped)) none))

-- that there is nothing is found out where it can't be otherwise
pub settled : {A : Type 0} (found : Option A) → ¬ (¬ (found ≡ None)) → found ≡ None
settled None sure = refl
settled (Some a) sure = absurd (sure (λ none. absurd cc))

pub passed_alone : (way : Onward) (attempt : Attempt) (breaking : Breaking) → ∥ BreaksAlone breaking way ∥₁ → may_stop false attempt.outcome ≡ false → done_by way.actions.now attempt ≡ None
passed_alone way attempt breaking alone none =
    settled (done_by way.actions.now attempt) (λ some. not_there alone (λ a. some (passed way.actions.now attempt false (sym a.unstepped) none)))
