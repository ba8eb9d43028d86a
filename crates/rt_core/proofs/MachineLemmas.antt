-- The tasks of a machine and its queues, over a wake and over an attempt.
use Rattle.rt_core.proofs.Common.{◌≡◌, ℕ, zero, suc, ◌+◌, ◌<◌, ◌≤◌, List, [], ◌∷◌, length, map, get_or, slice_get, slice_set, All, Option, Some, None, refl, sym, ap, subst, ◌∙◌, arith, map-set, length-map, tick_limit, key_at, IsLeast, Active, Attempt, Busy, TaskState, deadline_in, deadline, MachineState, grants, woken_task, wake_in, wake_at, awake, IsSound, count_some}
use Rattle.std.proofs.Common.{◌^◌}
use Rattle.std.proofs.Math.Seq.{map-set_same}
use Rattle.std.proofs.lemmas.List.{length-set}
use Rattle.std.proofs.lemmas.List.Elements.{All-set, All-get_or}
use Rattle.std.proofs.lemmas.Option.{slice_get_read}
use Rattle.rt_queue.specs.Order.{NotAfter}
use Rattle.rt_queue.proofs.LeastLemmas.{none_is_not_some, key_at-below}
use Rattle.rt_history.proofs.NamedLaws.{IsNamed, key-found, named_is_least}
use Rattle.rt_history.proofs.ServingLaws.{has_room}
use Rattle.rt_history.proofs.Steps.{record_of_named, ran_of_named}
use Rattle.rt_core.specs.declared.task.Ran.{Ran}
use Rattle.rt_core.specs.declared.task.Ran.TheVariants.{Next, Other, Asks}
use Rattle.rt_core.specs.Working.Ran.{IsAttempt, Runs, went_on, IsBusyTick, Attempts}
use Rattle.rt_core.specs.Working.Tied.{AreTied}
use Rattle.rt_core.proofs.TaskLemmas.{wake_in-some, woken-awake, woken_task-kept, IsSound-awake, IsSound-later}

-- ---- a task by its number

-- x is task i of these
pub record IsTask (xs : List TaskState) (i : ℕ) (x : TaskState) : Type 0 where
  pub below : i < length xs
  pub here : x ≡ get_or xs i x

pub slice_get-at : (xs : List TaskState) (i : ℕ) (x : TaskState) → IsTask xs i x → slice_get xs i ≡ Some x
slice_get-at xs i x at = slice_get_read xs (length xs) i x refl at.below at.here

key_at-map : (f : TaskState → Option ℕ) (xs : List TaskState) (i : ℕ) (x : TaskState) → IsTask xs i x → key_at (map f xs) i ≡ f x
key_at-map f xs i x at = key-found f xs i x (slice_get-at xs i x at)

pub below_of : {A : Type 0} (f : A → Option ℕ) (xs : List A) (i k : ℕ) → key_at (map f xs) i ≡ Some k → i < length xs
below_of f xs i k there = let below = key_at-below (map f xs) i k there in omega (arith, below, length-map xs f)

sound-at : (t : ℕ) (xs : List TaskState) (i : ℕ) (x : TaskState) → IsTask xs i x → All (IsSound t) xs → IsSound t x
sound-at t xs i x at all = subst (IsSound t) (sym at.here) (All-get_or (IsSound t) xs i x at.below all)

All-later : (t u : ℕ) (xs : List TaskState) → t ≤ u → All (IsSound t) xs → All (IsSound u) xs
All-later t u xs le all = λ k d below. IsSound-later t u (get_or xs k d) le (all k d below)

-- ---- the named task

-- it is active, and has budget, and room for one more period
pub record CanRun (m : MachineState) (i : ℕ) (x : TaskState) : Type 0 where
  pub named : IsNamed m.tasks i x
  pub sound : IsSound m.tick x
  pub budget : 1 ≤ x.serving.account.c
  pub room : x.serving.account.d + x.serving.account.p < 2 ^ 63

pub can_run : (m : MachineState) (e : ℕ × ℕ) (x : TaskState) → IsTask m.tasks e.1 x → IsLeast (map deadline m.tasks) (Some e) → All (IsSound m.tick) m.tasks → m.tick ≤ tick_limit
    → CanRun m e.1 x
can_run m e x at least all limit =
    let is = named_is_least m.tasks e x least (slice_get-at m.tasks e.1 x at) in
    let sound = sound-at m.tick m.tasks e.1 x at all in
    record {
      named = is;
      sound = sound;
      budget = sound.active is.active;
      room = has_room m.tick x.serving.account limit sound.account;
    }

-- ---- an attempt

-- a task has changed by tick u
pub tied-set : (readies timers r s : List (Option ℕ)) (hyper t u : ℕ) (xs : List TaskState) (i : ℕ) (y : TaskState) → AreTied readies timers hyper t xs → t ≤ u → u ≤ tick_limit
    → IsSound u y → r ≡ slice_set readies i (deadline y) → s ≡ slice_set timers i (wake_at y)
    → AreTied r s hyper u (slice_set xs i y)
tied-set readies timers r s hyper t u xs i y tied later limit sound ready asleep = record {
  ready = ready ∙ ap (λ (keys : List (Option ℕ)). slice_set keys i (deadline y)) tied.ready ∙ sym (map-set deadline xs i y);
  asleep = asleep ∙ ap (λ (keys : List (Option ℕ)). slice_set keys i (wake_at y)) tied.asleep ∙ sym (map-set wake_at xs i y);
  sound = All-set (IsSound u) xs i y sound (All-later t u xs later tied.sound);
  few = omega (arith, length-set xs i y, tied.few);
  whole = tied.whole;
  limit = limit;
}

IsBusyTick-from : (m : MachineState) (i : ℕ) (a : Attempt) (x y : TaskState) → IsNamed m.tasks i x → IsAttempt m.tick i a x y
    → IsBusyTick a m (record m { tick = m.tick + 1; tasks = slice_set m.tasks i y })
IsBusyTick-from m i a x y is runs = (
  ap Busy (runs (grants m i)).0 ∙ sym (record_of_named m i x is),
  ap (λ (ys : List TaskState). record m { tick = m.tick + 1; tasks = ys }) (ap (slice_set m.tasks i) (runs (grants m i)).1 ∙ sym (ran_of_named m i x is)),
)

-- what the named task's tick is of the machine
pub Runs-attempts : (m : MachineState) (i : ℕ) (x y : TaskState) (r : Ran) → IsNamed m.tasks i x → IsSound m.tick x → Runs m.tick i r x y
    → Attempts i r m (record m { tick = m.tick + 1; tasks = slice_set m.tasks i y })
Runs-attempts m i x y (Next pc word spent) is sound runs = IsBusyTick-from m i (went_on i pc word) x y is runs
Runs-attempts m i x y (Other a) is sound runs = IsBusyTick-from m i a x y is runs
Runs-attempts m i x y (Asks pc budget word) is sound runs =
    record { task = x; named = is.task; there = is.there; left = y; bounded = sound.account; asked = runs; state = refl }

-- a timer of the named task: there is none
pub named_awake : (timers : List (Option ℕ)) (xs : List TaskState) (i : ℕ) (x : TaskState) → timers ≡ map wake_at xs → IsTask xs i x → x.serving.mode ≡ Active → key_at timers i ≡ None
named_awake timers xs i x is at active = ap (λ (keys : List (Option ℕ)). key_at keys i) is ∙ key_at-map wake_at xs i x at ∙ ap wake_in active

-- ---- a wake

-- the task of a timer
pub record IsSleeper (t : ℕ) (xs : List TaskState) (e : ℕ × ℕ) (x : TaskState) : Type 0 where
  pub asleep : wake_at x ≡ Some e.0
  pub unready : key_at (map deadline xs) e.1 ≡ None

deadline-asleep : (x : TaskState) (w : ℕ) → wake_at x ≡ Some w → deadline x ≡ None
deadline-asleep x w at = ap (λ (m : _). deadline_in m x.serving.account.d) (wake_in-some x.serving.mode w at)

pub sleeper_is : (t : ℕ) (xs : List TaskState) (e : ℕ × ℕ) (x : TaskState) → IsTask xs e.1 x → key_at (map wake_at xs) e.1 ≡ Some e.0 → IsSleeper t xs e x
sleeper_is t xs e x at there =
    let asleep = sym (key_at-map wake_at xs e.1 x at) ∙ there in
    record { asleep = asleep; unready = key_at-map deadline xs e.1 x at ∙ deadline-asleep x e.0 asleep }

pub tied-awake : (readies timers r s : List (Option ℕ)) (hyper t : ℕ) (xs : List TaskState) (i w : ℕ) (x : TaskState) → AreTied readies timers hyper t xs → IsTask xs i x → w ≤ t
    → r ≡ slice_set readies i (deadline (awake w x)) → s ≡ slice_set timers i None
    → AreTied r s hyper t (slice_set xs i (awake w x))
tied-awake readies timers r s hyper t xs i w x tied at come ready asleep =
    tied-set readies timers r s hyper t t xs i (awake w x) tied (omega arith) tied.limit (IsSound-awake t w x come (sound-at t xs i x at tied.sound)) ready asleep

pub map-awake : (t : ℕ) (xs : List TaskState) (i w : ℕ) (x : TaskState) → IsTask xs i x → wake_at x ≡ Some w → w ≤ t → map (woken_task t) (slice_set xs i (awake w x)) ≡ map (woken_task t) xs
map-awake t xs i w x at asleep come =
    map-set_same (woken_task t) xs i (awake w x) x (woken-awake t w x asleep come ∙ ap (woken_task t) at.here)

count_some-set : (keys : List (Option ℕ)) (i k : ℕ) → key_at keys i ≡ Some k → count_some (slice_set keys i None) < count_some keys
count_some-set [] i k there = absurd (none_is_not_some k there)
count_some-set (None ∷ keys) zero k there = absurd (none_is_not_some k there)
count_some-set (Some j ∷ keys) zero k there = omega arith
count_some-set (None ∷ keys) (suc i) k there = count_some-set keys i k there
count_some-set (Some j ∷ keys) (suc i) k there = omega (arith, count_some-set keys i k there)

pub fewer_asleep : (xs : List TaskState) (i w v : ℕ) (x : TaskState) → key_at (map wake_at xs) i ≡ Some w → count_some (map wake_at (slice_set xs i (awake v x))) < count_some (map wake_at xs)
fewer_asleep xs i w v x there = rw (map-set wake_at xs i (awake v x)) (count_some-set (map wake_at xs) i w there)

-- no wake is due
pub none_due : (t : ℕ) (xs : List TaskState) → ((i w : ℕ) → key_at (map wake_at xs) i ≡ Some w → t < w) → map (woken_task t) xs ≡ xs
none_due t [] later = refl
none_due t (x ∷ xs) later =
    let first = woken_task-kept t x (later 0) in
    let others = none_due t xs (λ i. later (suc i)) in
    rw (first, others) refl

pub none_due-least : (t : ℕ) (timers : List (Option ℕ)) (xs : List TaskState) (e : ℕ × ℕ) → timers ≡ map wake_at xs → IsLeast timers (Some e) → t < e.0 → map (woken_task t) xs ≡ xs
none_due-least t timers xs e is least later = none_due t xs (λ i w there. let order : NotAfter e (w, i) = least.1 i w (ap (λ (keys : List (Option ℕ)). key_at keys i) is ∙ there) in omega (arith, order.by_key))

pub none_due-none : (t : ℕ) (timers : List (Option ℕ)) (xs : List TaskState) → timers ≡ map wake_at xs → IsLeast timers None → map (woken_task t) xs ≡ xs
none_due-none t timers xs is none = none_due t xs (λ i w there. absurd (none_is_not_some w (sym (none i) ∙ ap (λ (keys : List (Option ℕ)). key_at keys i) is ∙ there)))
