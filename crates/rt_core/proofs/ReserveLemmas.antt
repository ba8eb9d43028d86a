-- A reserve in two steps: the attempt, and the answer by what all tasks have.
use Rattle.rt_core.proofs.Common.{◌≡◌, ℕ, zero, suc, ◌+◌, ◌≤◌, Bool, true, false, cond, List, [], ◌∷◌, map, slice_get, slice_set, Option, Some, None, refl, sym, ap, subst, ◌∙◌, arith, map-set, Active, Busy, Program, Told, a0, reserves, attempt_at, after, TaskState, deadline, MachineState, reserved_of, grants, record_at, ran, ran_at, wake_at, IsSound}
use Rattle.std.proofs.Math.Seq.{map-set_same}
use Rattle.std.proofs.lemmas.Option.{get_or_from_slice_get}
use Rattle.rt_history.specs.declared.record.AttemptOutcome.{AttemptOutcome}
use Rattle.rt_history.specs.declared.record.AttemptOutcome.TheVariants.{Reserve, ReserveRefused}
use Rattle.rt_history.specs.Serving.{Serving, mode_after}
use Rattle.rt_admit.specs.declared.reservation.Reserved.{Reserved}
use Rattle.rt_admit.specs.Reservation.{is_granted}
use Rattle.rt_history.specs.Working.Bounded.{IsBounded, IsTakeable}
use Rattle.rt_history.proofs.ServingLaws.{charged-filled, IsBounded-charged}
use Rattle.rt_core.specs.Working.Ran.{answered, IsAsking}
use Rattle.rt_core.proofs.TaskLemmas.{Asked-serving, reserve-told, reserves-outcome}

-- ---- one place of a list

pub set-again : {X : Type 0} (xs : List X) (i : ℕ) (y z : X) → slice_set (slice_set xs i y) i z ≡ slice_set xs i z
set-again [] i y z = refl
set-again (x ∷ xs) zero y z = refl
set-again (x ∷ xs) (suc i) y z = ap (λ (ys : List _). x ∷ ys) (set-again xs i y z)

pub get-set : {X : Type 0} (xs : List X) (i : ℕ) (x y : X) → slice_get xs i ≡ Some x → slice_get (slice_set xs i y) i ≡ Some y
get-set [] i x y there = absurd cc
get-set (z ∷ xs) zero x y there = refl
get-set (z ∷ xs) (suc i) x y there = get-set xs i x y there

-- what is read of the tasks stays where it stays of the one that is replaced
pub map-replaced : {B : Type 0} (f : TaskState → B) (xs : List TaskState) (i : ℕ) (x y : TaskState) → slice_get xs i ≡ Some x → f y ≡ f x → map f (slice_set xs i y) ≡ map f xs
map-replaced f xs i x y there same = map-set_same f xs i y x (same ∙ ap f (sym (get_or_from_slice_get xs i x x there)))

-- a timer that stays
pub timers-stay : (timers : List (Option ℕ)) (xs : List TaskState) (i : ℕ) (x z : TaskState) → timers ≡ map wake_at xs → slice_get xs i ≡ Some x → wake_at z ≡ wake_at x
    → timers ≡ slice_set timers i (wake_at z)
timers-stay timers xs i x z is there same =
    is ∙ sym (map-replaced wake_at xs i x z there same) ∙ map-set wake_at xs i z ∙ ap (λ (keys : List (Option ℕ)). slice_set keys i (wake_at z)) (sym is)

-- ---- the task that asks

pub asking-left : (i pc : ℕ) (word : Option ℕ) (budget : ℕ) (old mid : MachineState) (a : IsAsking i pc word budget old mid) → slice_get mid.tasks i ≡ Some a.left
asking-left i pc word budget old mid a =
    ap (λ (m : MachineState). slice_get m.tasks i) a.state ∙ get-set old.tasks i a.task a.left a.there

-- its server, and what all have reserved, are as before
asking-same : {B : Type 0} (f : TaskState → B) (i pc : ℕ) (word : Option ℕ) (budget : ℕ) (old mid : MachineState) (a : IsAsking i pc word budget old mid) → f a.left ≡ f a.task
    → map f mid.tasks ≡ map f old.tasks
asking-same f i pc word budget old mid a same =
    ap (λ (m : MachineState). map f m.tasks) a.state ∙ map-replaced f old.tasks i a.task a.left a.there same

left-serving : (i pc : ℕ) (word : Option ℕ) (budget : ℕ) (old mid : MachineState) (a : IsAsking i pc word budget old mid) → a.left.serving ≡ a.task.serving
left-serving i pc word budget old mid a = Asked-serving pc word budget a.task a.left a.asked

serving-reserved : Serving → Reserved
serving-reserved s = record { budget = s.account.q; pending = s.account.pending; period = s.account.p }

pub asking-deadlines : (i pc : ℕ) (word : Option ℕ) (budget : ℕ) (old mid : MachineState) → IsAsking i pc word budget old mid → map deadline mid.tasks ≡ map deadline old.tasks
asking-deadlines i pc word budget old mid a =
    asking-same deadline i pc word budget old mid a (ap (λ (s : Serving). deadline (record { program = a.task.program; serving = s })) (left-serving i pc word budget old mid a))

pub asking-grants : (i pc : ℕ) (word : Option ℕ) (budget : ℕ) (old mid : MachineState) → IsAsking i pc word budget old mid → grants mid i budget ≡ grants old i budget
asking-grants i pc word budget old mid a =
    let hyper : mid.hyper ≡ old.hyper = ap (λ (m : MachineState). m.hyper) a.state in
    let all : map reserved_of mid.tasks ≡ map reserved_of old.tasks =
    asking-same reserved_of i pc word budget old mid a
    (ap (λ (s : Serving). reserved_of (record { program = a.task.program; serving = s })) (left-serving i pc word budget old mid a)) in
    ap (λ (h : ℕ). is_granted h (map reserved_of mid.tasks) i budget) hyper ∙ ap (λ (rs : List Reserved). is_granted old.hyper rs i budget) all

-- what the answer is about
pub asking-asked : (i pc : ℕ) (word : Option ℕ) (budget : ℕ) (old mid : MachineState) → IsAsking i pc word budget old mid → (x : TaskState) → slice_get mid.tasks i ≡ Some x
    → (budget ≡ a0 x.program) × IsBounded old.tick x.serving.account
asking-asked i pc word budget old mid a x there =
    let is : Some a.left ≡ Some x = sym (asking-left i pc word budget old mid a) ∙ there in
    let same : a.left ≡ x = cc in
    subst (λ (y : TaskState). (budget ≡ a0 y.program) × IsBounded old.tick y.serving.account) same
    (a.asked.budget_is, subst (λ (s : Serving). IsBounded old.tick s.account) (sym (left-serving i pc word budget old mid a)) a.bounded)

-- ---- the answer

pub IsSound-answered : (t : ℕ) (o : AttemptOutcome) (x z : TaskState) → IsBounded t x.serving.account → IsTakeable o x.serving.account → z.serving ≡ after t o x.serving.account
    → IsSound (t + 1) z
IsSound-answered t o x z bounded takes is =
    let filled = charged-filled o x.serving.account bounded.positive in
    subst (λ (s : Serving). IsSound (t + 1) (record { program = z.program; serving = s })) (sym is)
    (record {
      account = IsBounded-charged t o x.serving.account bounded takes;
      begun = λ empty. absurd (omega (arith, filled));
      active = λ _. filled;
    })

reserves-takeable : (b : Bool) (x : TaskState) → (b ≡ true → (1 ≤ a0 x.program) × (a0 x.program ≤ x.serving.account.p)) → IsTakeable (reserves b x.program).outcome x.serving.account
reserves-takeable true x fits = fits refl
reserves-takeable false x fits = tt

-- after it the task goes on
reserves-active : (t : ℕ) (b : Bool) (p : Program) → mode_after t (reserves b p).outcome ≡ Active
reserves-active t true p = refl
reserves-active t false p = refl

-- of a reserve that is answered
pub record IsAnswered (t : ℕ) (b : Bool) (x z : TaskState) : Type 0 where
  pub sound : IsSound (t + 1) z
  pub deadline_is : deadline z ≡ Some z.serving.account.d
  pub awake : wake_at z ≡ None

pub answered-of : (t : ℕ) (b : Bool) (x z : TaskState) → IsBounded t x.serving.account → (b ≡ true → (1 ≤ a0 x.program) × (a0 x.program ≤ x.serving.account.p))
    → z.serving ≡ after t (reserves b x.program).outcome x.serving.account → IsAnswered t b x z
answered-of t b x z bounded fits is =
    let active : z.serving.mode ≡ Active = ap (λ (s : Serving). s.mode) is ∙ reserves-active t b x.program in
    record {
      sound = IsSound-answered t (reserves b x.program).outcome x z bounded (reserves-takeable b x fits) is;
      deadline_is = rw active refl;
      awake = rw active refl;
    }

-- the record
pub answered-record : (i pc : ℕ) (word : Option ℕ) (budget : ℕ) (b : Bool) (old mid : MachineState) → IsAsking i pc word budget old mid → b ≡ grants mid i budget
    → Busy (answered i pc word budget b) ≡ record_at old
answered-record i pc word budget b old mid a is =
    let g = grants old i in
    let granted : b ≡ g budget = is ∙ asking-grants i pc word budget old mid a in
    let told : (attempt_at old.tick g a.task.program).outcome ≡ (reserves b a.left.program).outcome =
    ap (λ (y : Told). y.outcome) (reserve-told old.tick g pc word budget a.task a.left a.asked) ∙ ap (λ (c : Bool). (reserves c a.left.program).outcome) (sym granted) in
    let out : cond b (Reserve budget) ReserveRefused ≡ (attempt_at old.tick g a.task.program).outcome =
    sym (told ∙ reserves-outcome b a.left.program budget a.asked.budget_is) in
    rw a.named (rw (a.asked.pc_is, a.asked.word_is, out) refl)

-- the tasks
pub answered-tasks : (i pc : ℕ) (word : Option ℕ) (budget : ℕ) (b : Bool) (z : TaskState) (old mid : MachineState) (a : IsAsking i pc word budget old mid) → b ≡ grants mid i budget
    → z.program ≡ (reserves b a.left.program).program → z.serving ≡ after old.tick (reserves b a.left.program).outcome a.left.serving.account
    → slice_set mid.tasks i z ≡ ran_at old
answered-tasks i pc word budget b z old mid a is program serving =
    let g = grants old i in
    let granted : b ≡ g budget = is ∙ asking-grants i pc word budget old mid a in
    let told : reserves b a.left.program ≡ attempt_at old.tick g a.task.program =
    ap (λ (c : Bool). reserves c a.left.program) granted ∙ sym (reserve-told old.tick g pc word budget a.task a.left a.asked) in
    let first : z.program ≡ (attempt_at old.tick g a.task.program).program = program ∙ ap (λ (y : Told). y.program) told in
    let second : z.serving ≡ after old.tick (attempt_at old.tick g a.task.program).outcome a.task.serving.account =
    serving ∙ ap (λ (y : Told). after old.tick y.outcome a.left.serving.account) told
    ∙ ap (λ (s : Serving). after old.tick (attempt_at old.tick g a.task.program).outcome s.account) (left-serving i pc word budget old mid a) in
    let whole : z ≡ ran old.tick g a.task =
    ap (λ (p : Program). record { program = p; serving = z.serving }) first ∙ ap (λ (s : Serving). record { program = (attempt_at old.tick g a.task.program).program; serving = s }) second in
    rw a.named (ap (λ (m : MachineState). slice_set m.tasks i z) a.state ∙ set-again old.tasks i a.left z ∙ ap (slice_set old.tasks i) whole)
