-- The history in which each task is always busy, by its servers.
use Rattle.rt_laws.proofs.Common.{◌≡◌, ℕ, zero, suc, ◌+◌, ◌==◌, ◌<◌, true, false, List, [], ◌∷◌, ◌++◌, map, length, length-append, slice_get, slice_set, All, Some, None, refl, sym, ap, subst, ◌∙◌, arith, option_map_or, nat_tests, All-head, All-tail, All-nil, All-cons, IsOverloaded, Account, spent, Fits, SetTask, TaskSet, least_from, Active, AttemptOutcome, Next, Record, Idle, Busy, task_params, Serving, first_serving, due, after, own, serving_after, TaskState, task_state, deadline_in, named, TaskFits, AllFit, all_at_once, busy, busy_at, named_cases, serving_after-append, awake, deadline, next_server, after_tick, after_ticks, busy_servers}
use Rattle.std.specs.List.{enumerate_from}
use Rattle.rt_history.specs.declared.record.Attempt.{Attempt}
use Rattle.rt_history.specs.Named as naming
use Rattle.rt_history.specs.Legal.{stands_after}
use Rattle.rt_history.specs.Busy.{at_once, busy_record}
use Rattle.rt_history.proofs.OwnPartLaws.{added, added-other, added-own, own-append, own-same}
use Rattle.rt_history.proofs.ServingLaws.{due_later}
use Rattle.rt_laws.specs.Working.BusyServers.{spent_in}
use Rattle.rt_laws.proofs.BusyRuns.{next-there, tick-is, one_exceeds}

-- ---- one server

abbrev pub active : Account → Serving
active a = record { account = a; mode = Active }

-- how task i's server stands after a history of t records
abbrev pub standing : ℕ → List Record → ℕ → SetTask → Serving
standing t h i s = due t (serving_after (first_serving s) (own i h))

standing-other : (t i : ℕ) (h : List Record) (r : Record) (s : SetTask) (a : Account) → length h ≡ t → added t i r ≡ [] → standing t h i s ≡ active a
    → standing (t + 1) (h ++ r ∷ []) i s ≡ active a
standing-other t i h r s a len none now =
    ap (λ (es : List (ℕ × AttemptOutcome)). due (t + 1) (serving_after (first_serving s) es)) (own-same t i h r len none)
    ∙ sym (due_later t (serving_after (first_serving s) (own i h))) ∙ ap (due (t + 1)) now

standing-own : (t i : ℕ) (h : List Record) (r : Record) (s : SetTask) (a : Account) → length h ≡ t → added t i r ≡ (t, Next) ∷ [] → standing t h i s ≡ active a
    → standing (t + 1) (h ++ r ∷ []) i s ≡ active (spent a)
standing-own t i h r s a len one now =
    let e : List (ℕ × AttemptOutcome) = (t, Next) ∷ [] in
    let more : own i (h ++ r ∷ []) ≡ own i h ++ e = own-append t i h (r ∷ []) len ∙ ap (λ (es : List (ℕ × AttemptOutcome)). own i h ++ es) one in
    ap (λ (es : List (ℕ × AttemptOutcome)). due (t + 1) (serving_after (first_serving s) es)) more
    ∙ ap (due (t + 1)) (serving_after-append (first_serving s) (own i h) e)
    ∙ ap (λ (v : Serving). due (t + 1) (after t Next v.account)) now

-- ---- all of them

-- the servers of these tasks, of which the first is task i, are active with these accounts
abbrev pub Stand : ℕ → List Record → ℕ → List SetTask → List Account → Type 0
Stand t h i [] [] = Unit {0}
Stand t h i (s ∷ ss) (a ∷ accounts) = (standing t h i s ≡ active a) × Stand t h (i + 1) ss accounts
Stand t h i [] (a ∷ accounts) = ⊥
Stand t h i (s ∷ ss) [] = ⊥

stand-idle : (t i : ℕ) (h : List Record) (ss : List SetTask) (accounts : List Account) → length h ≡ t → Stand t h i ss accounts → Stand (t + 1) (h ++ Idle ∷ []) i ss accounts
stand-idle t i h [] [] len now = tt
stand-idle t i h (s ∷ ss) (a ∷ accounts) len now = (standing-other t i h Idle s a len refl now.0, stand-idle t (i + 1) h ss accounts len now.1)
stand-idle t i h [] (a ∷ accounts) len now = absurd now
stand-idle t i h (s ∷ ss) [] len now = absurd now

stand-behind : (t i : ℕ) (h : List Record) (r : Attempt) (ss : List SetTask) (accounts : List Account) → length h ≡ t → r.task < i → Stand t h i ss accounts
    → Stand (t + 1) (h ++ Busy r ∷ []) i ss accounts
stand-behind t i h r [] [] len below now = tt
stand-behind t i h r (s ∷ ss) (a ∷ accounts) len below now =
    let differs : (r.task == i) ≡ false = grind (arith, nat_tests) in
    (standing-other t i h (Busy r) s a len (added-other t i r differs) now.0, stand-behind t (i + 1) h r ss accounts len (omega arith) now.1)
stand-behind t i h r [] (a ∷ accounts) len below now = absurd now
stand-behind t i h r (s ∷ ss) [] len below now = absurd now

stand-ran : (t i k : ℕ) (h : List Record) (r : Attempt) (ss : List SetTask) (accounts : List Account) (a : Account) → length h ≡ t → r.task ≡ i + k → r.outcome ≡ Next
    → slice_get accounts k ≡ Some a → Stand t h i ss accounts → Stand (t + 1) (h ++ Busy r ∷ []) i ss (slice_set accounts k (spent a))
stand-ran t i k h r ss [] a len place next there now = absurd cc
stand-ran t i k h r [] (x ∷ accounts) a len place next there now = absurd now
stand-ran t i zero h r (s ∷ ss) (x ∷ accounts) a len place next there now =
    let it : x ≡ a = cc in
    let hits : (r.task == i) ≡ true = grind (arith, nat_tests) in
    (standing-own t i h (Busy r) s a len (added-own t i r Next hits next) (now.0 ∙ ap active it), stand-behind t (i + 1) h r ss accounts len (omega arith) now.1)
stand-ran t i (suc k) h r (s ∷ ss) (x ∷ accounts) a len place next there now =
    let differs : (r.task == i) ≡ false = grind (arith, nat_tests) in
    (standing-other t i h (Busy r) s x len (added-other t i r differs) now.0, stand-ran t (i + 1) k h r ss accounts a len (omega arith) next there now.1)

-- ---- as tasks of a machine

-- tasks of which the first is task i
abbrev pub states_from : ℕ → List Record → ℕ → List SetTask → List TaskState
states_from t h i ss = map (λ n. task_state t h n.0 n.1) (enumerate_from i ss)

keys-stand : (t i : ℕ) (h : List Record) (ss : List SetTask) (accounts : List Account) → Stand t h i ss accounts
    → map naming.deadline (states_from t h i ss) ≡ map deadline accounts
keys-stand t i h [] [] now = refl
keys-stand t i h (s ∷ ss) (a ∷ accounts) now =
    let first : naming.deadline (task_state t h i s) ≡ Some a.d = ap (λ (v : Serving). deadline_in v.mode v.account.d) now.0 in
    let others = keys-stand t (i + 1) h ss accounts now.1 in
    rw (first, others) refl
keys-stand t i h [] (a ∷ accounts) now = absurd now
keys-stand t i h (s ∷ ss) [] now = absurd now

-- the task whose server has this account, and the account of this task's server
pub task-of : (t i k : ℕ) (h : List Record) (ss : List SetTask) (accounts : List Account) (a : Account) → Stand t h i ss accounts → slice_get accounts k ≡ Some a
    → (x : TaskState) × (slice_get (states_from t h i ss) k ≡ Some x) × (x.serving ≡ active a)
task-of t i k h ss [] a now there = absurd cc
task-of t i k h [] (b ∷ accounts) a now there = absurd now
task-of t i zero h (s ∷ ss) (b ∷ accounts) a now there = let it : b ≡ a = cc in (task_state t h i s, refl, now.0 ∙ ap active it)
task-of t i (suc k) h (s ∷ ss) (b ∷ accounts) a now there = task-of t (i + 1) k h ss accounts a now.1 there

pub account-of : (t i k : ℕ) (h : List Record) (ss : List SetTask) (accounts : List Account) (x : TaskState) → Stand t h i ss accounts
    → slice_get (states_from t h i ss) k ≡ Some x → (a : Account) × (slice_get accounts k ≡ Some a) × (x.serving ≡ active a)
account-of t i k h [] accounts x now there = absurd cc
account-of t i k h (s ∷ ss) [] x now there = absurd now
account-of t i zero h (s ∷ ss) (b ∷ accounts) x now there =
    let it : task_state t h i s ≡ x = cc in
    (b, refl, sym (ap (λ (y : TaskState). y.serving) it) ∙ now.0)
account-of t i (suc k) h (s ∷ ss) (b ∷ accounts) x now there = account-of t (i + 1) k h ss accounts x now.1 there

pub fits-of : (u : ℕ) (x : TaskState) (a : Account) → x.serving ≡ active a → Fits u a → TaskFits u x
fits-of u x a is fits = λ mode. subst (λ (v : Serving). Fits u v.account) (sym is) fits

of-fits : (u : ℕ) (x : TaskState) (a : Account) → x.serving ≡ active a → TaskFits u x → Fits u a
of-fits u x a is fits = subst (λ (v : Serving). Fits u v.account) is (fits (ap (λ (v : Serving). v.mode) is))

all-fit : (t i u : ℕ) (h : List Record) (ss : List SetTask) (accounts : List Account) → Stand t h i ss accounts → All (TaskFits u) (states_from t h i ss) → All (Fits u) accounts
all-fit t i u h [] [] now fit = All-nil (Fits u)
all-fit t i u h (s ∷ ss) (a ∷ accounts) now fit =
    let x = task_state t h i s in
    let others = states_from t h (i + 1) ss in
    All-cons (Fits u) a accounts (of-fits u x a now.0 (All-head (TaskFits u) x others fit))
    (all-fit t (i + 1) u h ss accounts now.1 (All-tail (TaskFits u) x others fit))
all-fit t i u h [] (a ∷ accounts) now fit = absurd now
all-fit t i u h (s ∷ ss) [] now fit = absurd now

-- and back
pub tasks-fit : (t i u : ℕ) (h : List Record) (ss : List SetTask) (accounts : List Account) → Stand t h i ss accounts → All (Fits u) accounts → All (TaskFits u) (states_from t h i ss)
tasks-fit t i u h [] [] now fit = All-nil (TaskFits u)
tasks-fit t i u h (s ∷ ss) (a ∷ accounts) now fit =
    let x = task_state t h i s in
    let others = states_from t h (i + 1) ss in
    All-cons (TaskFits u) x others (fits-of u x a now.0 (All-head (Fits u) a accounts fit))
    (tasks-fit t (i + 1) u h ss accounts now.1 (All-tail (Fits u) a accounts fit))
tasks-fit t i u h [] (a ∷ accounts) now fit = absurd now
tasks-fit t i u h (s ∷ ss) [] now fit = absurd now

-- ---- a tick

stand-next : (t : ℕ) (h : List Record) (set : TaskSet) (accounts : List Account) → length h ≡ t → Stand t h 0 set.tasks accounts
    → Stand (t + 1) (h ++ busy_record (stands_after set t h) ∷ []) 0 set.tasks (after_tick accounts)
stand-next t h set accounts len now =
    let tasks = states_from t h 0 set.tasks in
    let same : named tasks ≡ next_server accounts = ap (least_from 0) (keys-stand t 0 h set.tasks accounts now) in
    named_cases
    (λ r. Stand (t + 1) (h ++ option_map_or (λ n. Busy (record { task = n.0; pc = 0; word = None; outcome = Next })) r Idle ∷ []) 0 set.tasks (after_tick accounts))
    tasks
    (λ none. subst (Stand (t + 1) (h ++ Idle ∷ []) 0 set.tasks) (sym (ap (spent_in accounts) (sym same ∙ none))) (stand-idle t 0 h set.tasks accounts len now))
    (λ i x is.
    let least : ℕ × ℕ = (x.serving.account.d, i) in
    let next : next_server accounts ≡ Some least = sym same ∙ is.name in
    let there = next-there accounts least next in
    let r : Attempt = record { task = i; pc = 0; word = None; outcome = Next } in
    subst (Stand (t + 1) (h ++ Busy r ∷ []) 0 set.tasks) (sym (tick-is accounts least there.0 next there.1))
    (stand-ran t 0 i h r set.tasks accounts there.0 len (omega arith) refl there.1 now))

length-busy : (set : TaskSet) (n : ℕ) → length (busy set n) ≡ n
unfolding busy
length-busy set zero = refl
length-busy set (suc n) = omega (arith, length-append (busy set n) (busy_record (stands_after (all_at_once set) n (busy set n)) ∷ []), length-busy set n)

stand-first : (i : ℕ) (ss : List SetTask) → Stand 0 [] i (map at_once ss) (map awake (task_params ss))
stand-first i [] = tt
stand-first i (s ∷ ss) = (refl, stand-first (i + 1) ss)

pub stands : (set : TaskSet) (n : ℕ) → Stand n (busy set n) 0 (all_at_once set).tasks (busy_servers (task_params set.tasks) n)
unfolding busy after_ticks
stands set zero = stand-first 0 set.tasks
stands set (suc n) =
    let at : n + 1 ≡ suc n = omega arith in
    let accounts = busy_servers (task_params set.tasks) n in
    let h = busy set n in
    subst (λ m. Stand m (h ++ busy_record (stands_after (all_at_once set) n h) ∷ []) 0 (all_at_once set).tasks (after_tick accounts)) at
    (stand-next n h (all_at_once set) accounts (length-busy set n) (stands set n))

-- ---- an overloaded set

pub one_misses : (set : TaskSet) → IsOverloaded set.hyper (task_params set.tasks) → AllFit (busy_at set set.hyper) → ⊥
unfolding busy_at
one_misses set over fit =
    let n = set.hyper in
    let accounts = busy_servers (task_params set.tasks) n in
    one_exceeds n (task_params set.tasks) over (all-fit n 0 n (busy set n) (all_at_once set).tasks accounts (stands set n) fit)
