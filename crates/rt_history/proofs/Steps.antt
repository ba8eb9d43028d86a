-- The legal history a tick at a time: how a machine stands after one record more.
use Rattle.rt_history.proofs.Common.{◌≡◌, ℕ, zero, suc, ◌+◌, ◌<◌, ◌==◌, Bool, true, false, List, [], ◌∷◌, ◌++◌, length, length-append, replicate, map, take, slice_get, slice_set, Option, Some, None, refl, sym, ap, subst, ◌∙◌, arith, add-one, add-zero, nat_tests, TaskSet, AttemptOutcome, Attempt, Record, Idle, Busy, Program, attempt_at, own, serving_after, TaskState, MachineState, grants}
use Rattle.std.proofs.Common.{append_assoc, get_or, get_or-append-add, All, IsSome}
use Rattle.std.specs.List.{enumerate_from}
use Rattle.std.specs.Option.{option_map_or}
use Rattle.std.proofs.lemmas.List.{length-map, map-append, append-nil, get_or_append_left, take_more}
use Rattle.std.proofs.lemmas.List.Elements.{All-head, All-tail}
use Rattle.std.proofs.lemmas.List.FromFn.{length-enumerate_from}
use Rattle.std.proofs.lemmas.Option.{slice_get_within}
use Rattle.rt_admit.specs.Admission.{IsEligible}
use Rattle.rt_image.specs.declared.system.Task.{Task}
use Rattle.rt_image.specs.SystemFile.{SetTask, set_task, set_tasks}
use Rattle.rt_history.specs.Admitted.{params_in, task_params, IsAdmittedSet}
use Rattle.rt_history.specs.Program.{first_program}
use Rattle.rt_history.specs.Calls.{Told}
use Rattle.rt_history.specs.Serving.{Serving, first_serving, due, after}
use Rattle.rt_history.specs.OwnPart.{program_after, task_state}
use Rattle.rt_history.specs.Named.{deadline, named, named_task}
use Rattle.rt_history.specs.Legal.{attempt_of, record_at, stands_after, legal, state_at}
use Rattle.rt_history.specs.Working.Step.{first_task, woken_task, ran, ran_at, next_state, passed, IsIdleFor}
use Rattle.rt_history.proofs.Granting.{attempt_at-same}
use Rattle.rt_history.proofs.NamedLaws.{IsNamed, named_cases, none_named, none_some}
use Rattle.rt_history.proofs.OwnPartLaws.{added, added-other, added-own, own-append, own-same, program_after-append}
use Rattle.rt_history.proofs.ServingLaws.{due_later, serving_after-append}

-- ---- one record more for one task

-- another task's record, or an idle one, leaves a task to its wakes
task_state-other : (t i : ℕ) (h : List Record) (r : Record) (s : SetTask) → length h ≡ t → added t i r ≡ []
    → task_state (t + 1) (h ++ r ∷ []) i s ≡ woken_task (t + 1) (task_state t h i s)
task_state-other t i h r s len none =
    let same : own i (h ++ r ∷ []) ≡ own i h = own-same t i h r len none in
    rw (same, due_later t (serving_after (first_serving s) (own i h))) refl

-- a task's own record: its attempt, its charge, and its wakes
task_state-own : (t i : ℕ) (h : List Record) (a : Attempt) (s : SetTask) (granted : ℕ → Bool) → length h ≡ t
    → added t i (Busy a) ≡ (t, (attempt_at t granted (task_state t h i s).program).outcome) ∷ []
    → task_state (t + 1) (h ++ Busy a ∷ []) i s ≡ woken_task (t + 1) (ran t granted (task_state t h i s))
task_state-own t i h a s granted len one =
    let p : Program = program_after (first_program s) (own i h) in
    let v : Serving = serving_after (first_serving s) (own i h) in
    let o : AttemptOutcome = (attempt_at t granted p).outcome in
    let e : List (ℕ × AttemptOutcome) = (t, o) ∷ [] in
    let more : own i (h ++ Busy a ∷ []) ≡ own i h ++ e = own-append t i h (Busy a ∷ []) len ∙ ap (λ (es : List (ℕ × AttemptOutcome)). own i h ++ es) one in
    rw (more, program_after-append (first_program s) (own i h) e, serving_after-append (first_serving s) (own i h) e)
    (ap (λ (y : Told). record { program = y.program; serving = due (t + 1) (after t o (due t v).account) }) (attempt_at-same t granted p))

-- ---- one record more for all tasks

-- tasks of which the first is task i
abbrev states_from : ℕ → List Record → ℕ → List SetTask → List TaskState
states_from t h i ss = map (λ n. task_state t h n.0 n.1) (enumerate_from i ss)

states-idle : (t i : ℕ) (h : List Record) (ss : List SetTask) → length h ≡ t → states_from (t + 1) (h ++ Idle ∷ []) i ss ≡ map (woken_task (t + 1)) (states_from t h i ss)
states-idle t i h [] len = refl
states-idle t i h (s ∷ ss) len =
    let first = task_state-other t i h Idle s len refl in
    let others = states-idle t (i + 1) h ss len in
    rw (first, others) refl

-- tasks behind the one that ran
states-behind : (t i : ℕ) (h : List Record) (a : Attempt) (ss : List SetTask) → length h ≡ t → a.task < i → states_from (t + 1) (h ++ Busy a ∷ []) i ss ≡ map (woken_task (t + 1)) (states_from t h i ss)
states-behind t i h a [] len below = refl
states-behind t i h a (s ∷ ss) len below =
    let differs : (a.task == i) ≡ false = grind (arith, nat_tests) in
    let first = task_state-other t i h (Busy a) s len (added-other t i a differs) in
    let others = states-behind t (i + 1) h a ss len (omega arith) in
    rw (first, others) refl

-- the task that ran is k places behind the first of these
states-ran : (t i k : ℕ) (h : List Record) (a : Attempt) (granted : ℕ → Bool) (x : TaskState) (ss : List SetTask) → length h ≡ t → a.task ≡ i + k
    → slice_get (states_from t h i ss) k ≡ Some x → a.outcome ≡ (attempt_at t granted x.program).outcome
    → states_from (t + 1) (h ++ Busy a ∷ []) i ss ≡ map (woken_task (t + 1)) (slice_set (states_from t h i ss) k (ran t granted x))
states-ran t i k h a granted x [] len place there same = absurd cc
states-ran t i zero h a granted x (s ∷ ss) len place there same =
    let it : task_state t h i s ≡ x = cc in
    let hits : (a.task == i) ≡ true = grind (arith, nat_tests) in
    let one : added t i (Busy a) ≡ (t, (attempt_at t granted (task_state t h i s).program).outcome) ∷ [] =
    added-own t i a _ hits (same ∙ ap (λ (y : TaskState). (attempt_at t granted y.program).outcome) (sym it)) in
    let first : task_state (t + 1) (h ++ Busy a ∷ []) i s ≡ woken_task (t + 1) (ran t granted x) =
    task_state-own t i h a s granted len one ∙ ap (λ (y : TaskState). woken_task (t + 1) (ran t granted y)) it in
    let others = states-behind t (i + 1) h a ss len (omega arith) in
    rw (first, others) refl
states-ran t i (suc k) h a granted x (s ∷ ss) len place there same =
    let differs : (a.task == i) ≡ false = grind (arith, nat_tests) in
    let first = task_state-other t i h (Busy a) s len (added-other t i a differs) in
    let others = states-ran t (i + 1) k h a granted x ss len (omega arith) there same in
    rw (first, others) refl

-- ---- the step

pub length-legal : (s : TaskSet) (t : ℕ) → length (legal s t) ≡ t
unfolding legal
length-legal s zero = refl
length-legal s (suc t) = omega (arith, length-append (legal s t) (record_at (stands_after s t (legal s t)) ∷ []), length-legal s t)

states-next : (s : TaskSet) (t : ℕ) (h : List Record) → length h ≡ t
    → states_from (t + 1) (h ++ record_at (stands_after s t h) ∷ []) 0 s.tasks ≡ map (woken_task (t + 1)) (ran_at (stands_after s t h))
states-next s t h len =
    let m : MachineState = stands_after s t h in
    named_cases
    (λ r. states_from (t + 1) (h ++ option_map_or (λ n. Busy (attempt_of t n.0 (grants m n.0) n.1.program)) r Idle ∷ []) 0 s.tasks
    ≡ map (woken_task (t + 1)) (option_map_or (λ n. slice_set m.tasks n.0 (ran t (grants m n.0) n.1)) r m.tasks)) m.tasks
    (λ none. states-idle t 0 h s.tasks len)
    (λ i x is. states-ran t 0 i h (attempt_of t i (grants m i) x.program) (grants m i) x s.tasks len (omega arith) is.there refl)

-- the legal history of one tick more
pub legal_next : (s : TaskSet) (t : ℕ) → legal s (t + 1) ≡ legal s t ++ record_at (state_at s t) ∷ []
unfolding legal state_at
legal_next s t = rw add-one refl

-- the tick at which it stands, and its hyperperiod
pub tick_is : (s : TaskSet) (t : ℕ) → (state_at s t).tick ≡ t
unfolding state_at
tick_is s t = refl

pub hyper_is : (s : TaskSet) (t : ℕ) → (state_at s t).hyper ≡ s.hyper
unfolding state_at
hyper_is s t = refl

-- how a machine stands after one tick more
pub state_next : (s : TaskSet) (t : ℕ) → state_at s (t + 1) ≡ next_state (state_at s t)
unfolding legal state_at
state_next s t =
    let h = legal s t in
    let more : legal s (t + 1) ≡ h ++ record_at (stands_after s t h) ∷ [] = rw add-one refl in
    let tasks : states_from (t + 1) (legal s (t + 1)) 0 s.tasks ≡ map (woken_task (t + 1)) (ran_at (stands_after s t h)) =
    ap (λ (g : List Record). states_from (t + 1) g 0 s.tasks) more ∙ states-next s t h (length-legal s t) in
    ap (λ (xs : List TaskState). record { hyper = s.hyper; tick = t + 1; tasks = xs }) tasks

-- a task's own part of the legal history of one tick more
pub own-next : (set : TaskSet) (t i : ℕ) → own i (legal set (t + 1)) ≡ own i (legal set t) ++ added t i (record_at (state_at set t))
own-next set t i = ap (own i) (legal_next set t) ∙ own-append t i (legal set t) (record_at (state_at set t) ∷ []) (length-legal set t)

-- ---- what a tick is by the task that is named

pub record_of_named : (m : MachineState) (i : ℕ) (x : TaskState) → IsNamed m.tasks i x → record_at m ≡ Busy (attempt_of m.tick i (grants m i) x.program)
record_of_named m i x is = rw is.task refl

pub ran_of_named : (m : MachineState) (i : ℕ) (x : TaskState) → IsNamed m.tasks i x → ran_at m ≡ slice_set m.tasks i (ran m.tick (grants m i) x)
ran_of_named m i x is = rw is.task refl

of_record : (n : ℕ) (a b : Attempt) → Busy a ≡ Busy b → b.task < n → a.task < n
of_record n a b same below = let it : a ≡ b = cc in rw it below

-- a busy tick is of one of the tasks
pub busy-below : (m : MachineState) (a : Attempt) → Busy a ≡ record_at m → a.task < length m.tasks
busy-below m a =
    named_cases (λ r. Busy a ≡ option_map_or (λ n. Busy (attempt_of m.tick n.0 (grants m n.0) n.1.program)) r Idle → a.task < length m.tasks) m.tasks
    (λ none same. absurd cc)
    (λ i x is same. of_record (length m.tasks) a (attempt_of m.tick i (grants m i) x.program) same (slice_get_within m.tasks i x is.there))

-- a tick is busy where a task is named, and idle where none is
pub busy-named : (m : MachineState) → IsSome (named m.tasks) → (a : Attempt) × (record_at m ≡ Busy a)
busy-named m some =
    named_cases (λ r. (a : Attempt) × (option_map_or (λ n. Busy (attempt_of m.tick n.0 (grants m n.0) n.1.program)) r Idle ≡ Busy a)) m.tasks
    (λ none. absurd (none_some (named m.tasks) none some))
    (λ i x is. (attempt_of m.tick i (grants m i) x.program, refl))

pub idle-none : (m : MachineState) → record_at m ≡ Idle → named_task m.tasks ≡ None
idle-none m =
    named_cases (λ r. option_map_or (λ n. Busy (attempt_of m.tick n.0 (grants m n.0) n.1.program)) r Idle ≡ Idle → r ≡ None) m.tasks
    (λ none idle. refl) (λ i x is idle. absurd cc)

-- a history goes on from each of its beginnings
legal-from : (set : TaskSet) (t k : ℕ) → (more : List Record) × (legal set (t + k) ≡ legal set t ++ more)
legal-from set t zero = ([], rw add-zero (sym (append-nil (legal set t))))
legal-from set t (suc k) =
    let before = legal-from set t k in
    let r = record_at (state_at set (t + k)) in
    let at : t + k + 1 ≡ t + suc k = omega arith in (
      before.0 ++ r ∷ [],
      subst (λ (u : ℕ). legal set u ≡ legal set t ++ (before.0 ++ r ∷ [])) at
          (legal_next set (t + k) ∙ ap (λ (h : List Record). h ++ r ∷ []) before.1 ∙ append_assoc (legal set t) before.0 (r ∷ [])),
    )

-- its next record first
pub legal-then : (set : TaskSet) (t k : ℕ) → (more : List Record) × (legal set (t + 1 + k) ≡ legal set t ++ record_at (state_at set t) ∷ more)
legal-then set t k =
    let r = record_at (state_at set t) in
    let later = legal-from set (t + 1) k in
    (later.0, later.1 ∙ ap (λ (h : List Record). h ++ later.0) (legal_next set t) ∙ append_assoc (legal set t) (r ∷ []) later.0)

-- the record of a tick in a longer legal history
pub record-in-legal : (set : TaskSet) (u k : ℕ) → get_or (legal set (u + 1 + k)) u Idle ≡ record_at (state_at set u)
record-in-legal set u zero =
    let rs = legal set u in
    let r = record_at (state_at set u) in
    let at : u + 1 + 0 ≡ u + 1 = omega arith in
    ap (λ (n : ℕ). get_or (legal set n) u Idle) at ∙ ap (λ (h : List Record). get_or h u Idle) (legal_next set u)
    ∙ ap (λ (n : ℕ). get_or (rs ++ r ∷ []) n Idle) (sym (omega (arith, length-legal set u))) ∙ get_or-append-add rs (r ∷ []) 0 Idle
record-in-legal set u (suc k) =
    let t = u + 1 + k in
    let at : u + 1 + suc k ≡ t + 1 = omega arith in
    ap (λ (n : ℕ). get_or (legal set n) u Idle) at ∙ ap (λ (h : List Record). get_or h u Idle) (legal_next set t)
    ∙ get_or_append_left (legal set t) (record_at (state_at set t) ∷ []) Idle u (omega (arith, length-legal set t)) ∙ record-in-legal set u k

-- ---- idle ticks

replicate-push : (k : ℕ) → replicate k Idle ++ Idle ∷ [] ≡ replicate (suc k) Idle
replicate-push zero = refl
replicate-push (suc k) = ap (λ (h : List Record). Idle ∷ h) (replicate-push k)

-- an idle tick of any machine
next_idle : (m : MachineState) → named m.tasks ≡ None → (record_at m ≡ Idle) × (next_state m ≡ passed 1 m)
next_idle m idle = let none = none_named m.tasks idle in (rw none refl, rw none refl)

-- what n idle ticks leave, and one more
passed-more : (n : ℕ) (m : MachineState) → named m.tasks ≡ None → map (woken_task (m.tick + n)) m.tasks ≡ m.tasks
    → (record_at (passed n m) ≡ Idle) × (next_state (passed n m) ≡ passed (n + 1) m)
passed-more n m idle quiet =
    let still : named (map (woken_task (m.tick + n)) m.tasks) ≡ None = ap named quiet ∙ idle in
    let next = next_idle (passed n m) still in
    let at : m.tick + n + 1 ≡ m.tick + (n + 1) = omega arith in
    (next.0, next.1 ∙ rw (quiet, at) refl)

-- n idle ticks of the legal history
pub legal_idle : (s : TaskSet) (t n : ℕ) → IsIdleFor (suc n) (state_at s t)
    → (legal s (t + suc n) ≡ legal s t ++ replicate (suc n) Idle) × (state_at s (t + suc n) ≡ passed (suc n) (state_at s t))
legal_idle s t zero idle =
    let next = next_idle (state_at s t) idle.idle in
    (legal_next s t ∙ ap (λ (r : Record). legal s t ++ r ∷ []) next.0, state_next s t ∙ next.1)
legal_idle s t (suc n) idle =
    let m = state_at s t in
    let before = legal_idle s t n (record { idle = idle.idle; quiet = λ k some below. idle.quiet k some (omega arith) }) in
    let more = passed-more (suc n) m idle.idle (idle.quiet (suc n) (omega arith) (omega arith)) in
    let at : t + suc n + 1 ≡ t + suc (suc n) = omega arith in
    let here : record_at (state_at s (t + suc n)) ≡ Idle = ap record_at before.1 ∙ more.0 in
    let history : legal s (t + suc n + 1) ≡ legal s t ++ replicate (suc (suc n)) Idle =
    legal_next s (t + suc n) ∙ ap (λ (r : Record). legal s (t + suc n) ++ r ∷ []) here ∙ ap (λ (h : List Record). h ++ Idle ∷ []) before.0
    ∙ append_assoc (legal s t) (replicate (suc n) Idle) (Idle ∷ []) ∙ ap (λ (h : List Record). legal s t ++ h) (replicate-push (suc n)) in
    let state : state_at s (t + suc n + 1) ≡ passed (suc (suc n)) m =
    state_next s (t + suc n) ∙ ap next_state before.1 ∙ more.1 ∙ ap (λ (k : ℕ). passed k m) (omega arith) in
    (subst (λ (u : ℕ). legal s u ≡ legal s t ++ replicate (suc (suc n)) Idle) at history, subst (λ (u : ℕ). state_at s u ≡ passed (suc (suc n)) m) at state)

-- ---- the first tick

pub legal-first : (set : TaskSet) → legal set 0 ≡ []
unfolding legal
legal-first set = refl

states-first : (i : ℕ) (ss : List SetTask) → states_from 0 [] i ss ≡ map (woken_task 0) (map first_task ss)
states-first i [] = refl
states-first i (s ∷ ss) = let others = states-first (i + 1) ss in rw others refl

pub state_begins : (s : TaskSet) → state_at s 0 ≡ record { hyper = s.hyper; tick = 0; tasks = map (woken_task 0) (map first_task s.tasks) }
unfolding state_at legal
state_begins s = ap (λ (xs : List TaskState). record { hyper = s.hyper; tick = 0; tasks = xs }) (states-first 0 s.tasks)

-- ---- one task of a set

states-at : (t k i : ℕ) (h : List Record) (ss : List SetTask) (s : SetTask) → slice_get ss i ≡ Some s → slice_get (states_from t h k ss) i ≡ Some (task_state t h (k + i) s)
states-at t k i h [] s there = absurd cc
states-at t k zero h (x ∷ ss) s there = let same : x ≡ s = cc in let at : k ≡ k + zero = omega arith in ap (λ y. Some (task_state t h k y)) same ∙ ap (λ j. Some (task_state t h j s)) at
states-at t k (suc i) h (x ∷ ss) s there =
    let at : k + 1 + i ≡ k + suc i = omega arith in
    states-at t (k + 1) i h ss s there ∙ ap (λ j. Some (task_state t h j s)) at

pub state-of : (set : TaskSet) (t i : ℕ) (s : SetTask) → slice_get set.tasks i ≡ Some s → slice_get (state_at set t).tasks i ≡ Some (task_state t (legal set t) i s)
unfolding state_at
state-of set t i s there =
    let at : 0 + i ≡ i = omega arith in
    states-at t 0 i (legal set t) set.tasks s there ∙ ap (λ j. Some (task_state t (legal set t) j s)) at

-- a machine has as many tasks as its set
pub tasks-count : (set : TaskSet) (t : ℕ) → length (state_at set t).tasks ≡ length set.tasks
unfolding state_at
tasks-count set t = length-map (enumerate_from 0 set.tasks) (λ n. task_state t (legal set t) n.0 n.1) ∙ length-enumerate_from 0 set.tasks

pub eligible-at : (h i : ℕ) (ss : List SetTask) (s : SetTask) → All (IsEligible h) (task_params ss) → slice_get ss i ≡ Some s → IsEligible h (params_in s)
eligible-at h i [] s ok there = absurd cc
eligible-at h zero (x ∷ ss) s ok there =
    let same : x ≡ s = cc in
    subst (λ y. IsEligible h (params_in y)) same (All-head (IsEligible h) (params_in x) (task_params ss) ok)
eligible-at h (suc i) (x ∷ ss) s ok there = eligible-at h i ss s (All-tail (IsEligible h) (params_in x) (task_params ss) ok) there

-- a task of an admitted set is eligible
pub eligible-task : (set : TaskSet) (i : ℕ) (s : SetTask) → IsAdmittedSet set → slice_get set.tasks i ≡ Some s → IsEligible set.hyper (params_in s)
eligible-task set i s ok there = eligible-at set.hyper i set.tasks s ok.eligible there

-- ---- the first tasks

-- no task of a set is active at first
pub deadlines_begin : (ss : List SetTask) → map deadline (map first_task ss) ≡ replicate (length ss) None
deadlines_begin [] = refl
deadlines_begin (s ∷ ss) = ap (λ (keys : List (Option ℕ)). None ∷ keys) (deadlines_begin ss)

-- one task more
pub tasks_more : (ts : List Task) (n : ℕ) (x : Task) → n < length ts → x ≡ get_or ts n x
    → map first_task (set_tasks (take (n + 1) ts)) ≡ map first_task (set_tasks (take n ts)) ++ first_task (set_task x) ∷ []
tasks_more ts n x below here =
    let more : take (n + 1) ts ≡ take n ts ++ x ∷ [] = take_more ts n x below ∙ ap (λ (y : Task). take n ts ++ y ∷ []) (sym here) in
    ap (λ (ys : List Task). map first_task (set_tasks ys)) more
    ∙ ap (map first_task) (map-append set_task (take n ts) (x ∷ [])) ∙ map-append first_task (set_tasks (take n ts)) (set_task x ∷ [])
