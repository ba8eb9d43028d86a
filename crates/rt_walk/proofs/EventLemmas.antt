-- The least task that is such, looked for one by one; and where no event is asked for, none happens.
use Rattle.rt_walk.proofs.Common.{◌≡◌, ℕ, ◌+◌, ◌-◌, ◌<◌, Bool, true, false, true≢false, cond, List, [], ◌∷◌, Option, Some, None, refl, ap, ◌∙◌, arith, nat_lt}
use Rattle.std.specs.Prelude.{zero, suc, ◌&&◌, not, nat_eq, length, slice_get}
use Rattle.std.specs.Option.{unwrap_or, option_eq, option_map}
use Rattle.std.proofs.lemmas.Bool.{or_parts}
use Rattle.rt_history.specs.declared.record.Attempt.{Attempt}
use Rattle.rt_history.specs.declared.record.Record.{Record}
use Rattle.rt_history.specs.declared.record.Record.TheVariants as records
use Rattle.rt_history.specs.MachineState.{MachineState}
use Rattle.rt_history.specs.Serving.{mode_after}
use Rattle.rt_history.specs.Job.{ends_job}
use Rattle.rt_core.specs.declared.view.Next.{Next}
use Rattle.rt_core.specs.declared.view.Next.TheVariants as nexts
use Rattle.rt_core.specs.Next.{next_of}
use Rattle.rt_points.specs.declared.events.Event.{Event}
use Rattle.rt_points.specs.declared.events.Event.TheVariants.{Wake, Dispatch, Postponed, Finish, Over, Fault}
use Rattle.rt_points.specs.declared.events.Events.{Events}
use Rattle.rt_points.specs.Events.{asks, is_any, any_asked}
use Rattle.rt_walk.specs.declared.jobs.OpenJob.{OpenJob}
use Rattle.rt_walk.specs.Jobs.{Stand}
use Rattle.rt_walk.specs.declared.events.Deadline.{Deadline}
use Rattle.rt_walk.specs.Events.{is_until, stands, least_such, least_woken, deadline_of, named_by, happening, if_asked, lesser, own_wake, dispatched_by, is_active, postponed_by, finished, over_task, is_fault, is_over_at, open_number, happens}
use Rattle.rt_walk.specs.Met.{first_of}

pub one-more : (is_such : ℕ → Bool) (i n : ℕ) → is_such i ≡ false → i < n → least_such is_such i (n - i) ≡ least_such is_such (i + 1) (n - (i + 1))
one-more is_such i n none less =
    let some : n - i ≡ suc (n - (i + 1)) = omega (arith, less) in
    ap (least_such is_such i) some ∙ ap (λ (b : Bool). cond b (Some i) (least_such is_such (i + 1) (n - (i + 1)))) none

least-none : (is_such : ℕ → Bool) → ((i : ℕ) → is_such i ≡ false) → (i n : ℕ) → least_such is_such i n ≡ None
least-none is_such none i zero = refl
least-none is_such none i (suc n) = ap (λ (b : Bool). cond b (Some i) (least_such is_such (i + 1) n)) (none i) ∙ least-none is_such none (i + 1) n

pub first-none : {A : Type 0} (x y : Option A) → x ≡ None → y ≡ None → first_of x y ≡ None
first-none x y one two = ap (λ (o : Option _). first_of o y) one ∙ two

module _ (asked : Event → ℕ → Bool) (none : (event : Event) (task : ℕ) → asked event task ≡ false) where
  woken-none : (until : Option ℕ) (m : MachineState) → least_woken asked until m ≡ None
  woken-none until m = least-none (λ i. asked Wake i && stands until m i) (λ i. ap (λ (b : Bool). b && stands until m i) (none Wake i)) 0 (length m.tasks)

  unless : (event : Event) (task : ℕ) (b : Bool) → if_asked (asked event task && b) event task ≡ None
  unless event task b = ap (λ (a : Bool). if_asked (a && b) event task) (none event task)

  own-none : (u : ℕ) (attempt : Attempt) → own_wake asked u attempt ≡ None
  own-none u attempt = ap (λ (a : Bool). cond (a && is_until (Some u) (mode_after u attempt.outcome)) (Some attempt.task) None) (none Wake attempt.task)

  dispatched-none : (last : Option ℕ) (next : Next) → dispatched_by asked last next ≡ None
  dispatched-none last nexts.Idle = refl
  dispatched-none last (nexts.Run task pc) = unless Dispatch task (not (option_eq nat_eq last (Some task)))

  postponed-none : (u : ℕ) (attempt : Attempt) (after : MachineState) (named : Option Deadline) → postponed_by asked u attempt after named ≡ None
  postponed-none u attempt after None = refl
  postponed-none u attempt after (Some named) = unless Postponed named.task (is_active (mode_after u attempt.outcome) && nat_lt named.deadline (deadline_of after named.task))

  over-none : (attempt : Attempt) (after : Stand) → over_task asked attempt after ≡ None
  over-none attempt after =
      least-none (λ i. asked Over i && is_over_at attempt after i) (λ i. ap (λ (b : Bool). b && is_over_at attempt after i) (none Over i)) 0 (length after.machine.tasks)

  finished-none : (attempt : Attempt) (jobs : List OpenJob) → finished asked attempt jobs ≡ None
  finished-none attempt jobs =
      ap (λ (a : Bool). cond (a && ends_job attempt.outcome) (Some (happening Finish (Some (open_number jobs attempt.task - 1)) attempt.task)) None) (none Finish attempt.task)

  pub happens-none : (before : MachineState) (r : Record) (after : Stand) → happens asked before r after ≡ None
  happens-none before records.Idle after =
      first-none _ _ (ap (λ (o : Option ℕ). option_map (happening Wake None) o) (woken-none None after.machine)) (dispatched-none None (next_of after.machine))
  happens-none before (records.Busy attempt) after =
      first-none _ _
      (ap (λ (s : Option ℕ). option_map (happening Wake None) (lesser s (own_wake asked before.tick attempt))) (woken-none (Some before.tick) before)
      ∙ ap (λ (o : Option ℕ). option_map (happening Wake None) o) (own-none before.tick attempt))
      (first-none _ _ (dispatched-none (Some attempt.task) (next_of after.machine))
      (first-none _ _ (postponed-none before.tick attempt after.machine (named_by before (next_of before)))
      (first-none _ _ (first-none _ _ (finished-none attempt after.jobs) (unless Fault attempt.task (is_fault attempt.outcome)))
      (ap (λ (o : Option ℕ). option_map (λ i. happening Over (Some (open_number after.jobs i)) i) o) (over-none attempt after)))))

-- ---- a set that asks for none

get-none : (tasks : List Bool) (i : ℕ) → is_any tasks ≡ false → unwrap_or (slice_get tasks i) false ≡ false
get-none [] i none = refl
get-none (true ∷ tasks) zero none = absurd (true≢false none)
get-none (false ∷ tasks) zero none = refl
get-none (a ∷ tasks) (suc i) none = get-none tasks i (or_parts a (is_any tasks) none).1

pub asked-none : (events : Events) (event : Event) (task : ℕ) → any_asked events ≡ false → asks events event task ≡ false
asked-none events event task none =
    let one = or_parts (is_any events.wake) _ none in
    let two = or_parts (is_any events.dispatch) _ one.1 in
    let three = or_parts (is_any events.postponed) _ two.1 in
    let four = or_parts (is_any events.finish) _ three.1 in
    let five = or_parts (is_any events.over) _ four.1 in
    by event one.0 two.0 three.0 four.0 five.0 five.1
  where
    by : (event : Event) → is_any events.wake ≡ false → is_any events.dispatch ≡ false → is_any events.postponed ≡ false → is_any events.finish ≡ false → is_any events.over ≡ false → is_any events.fault ≡ false
        → asks events event task ≡ false
    by Wake a b c d e f = get-none events.wake task a
    by Dispatch a b c d e f = get-none events.dispatch task b
    by Postponed a b c d e f = get-none events.postponed task c
    by Finish a b c d e f = get-none events.finish task d
    by Over a b c d e f = get-none events.over task e
    by Fault a b c d e f = get-none events.fault task f
