-- Of an admitted set each task fits in the history in which each task is always busy, at every tick.
use Rattle.rt_laws.proofs.Common.{◌≡◌, ℕ, zero, suc, ◌+◌, ◌≤◌, List, [], ◌∷◌, map, length, slice_get, slice_set, All, Option, Some, refl, ap, subst, ◌∙◌, arith, All-nil, All-cons, Account, spent, Fits, least_from, SetTask, TaskSet, Next, task_params, IsAdmittedSet, Program, first_program, TaskState, named, TaskFits, AllFit, all_at_once, busy, busy_at, awake, deadline, next_server, after_tick, after_ticks, busy_servers}
use Rattle.rt_history.specs.Named as naming
use Rattle.rt_history.specs.Working.Step.{woken_task}
use Rattle.rt_history.proofs.NamedLaws.{named_by}
use Rattle.rt_laws.proofs.Totals.{Each}
use Rattle.rt_laws.proofs.Accounts.{spent-claim}
use Rattle.rt_laws.proofs.Fitting.{Holds, wakes, serves, same-load, fits-each, named-least, begins, unwoken_task}
use Rattle.rt_laws.proofs.BusyRuns.{next-some, next-there, tick-is, ran-busy}
use Rattle.rt_laws.proofs.BusyTasks.{active, stands, tasks-fit}

-- ---- servers as tasks, whose program doesn't matter

abbrev as_task : Program → Account → TaskState
as_task p a = record { program = p; serving = active a }

tasks-keys : (p : Program) (accounts : List Account) → map naming.deadline (map (as_task p) accounts) ≡ map deadline accounts
tasks-keys p [] = refl
tasks-keys p (a ∷ accounts) = ap (λ (ds : List (Option ℕ)). deadline a ∷ ds) (tasks-keys p accounts)

tasks-at : (p : Program) (accounts : List Account) (i : ℕ) (a : Account) → slice_get accounts i ≡ Some a → slice_get (map (as_task p) accounts) i ≡ Some (as_task p a)
tasks-at p [] i a there = absurd cc
tasks-at p (b ∷ accounts) zero a there = let it : b ≡ a = cc in ap (λ (c : Account). Some (as_task p c)) it
tasks-at p (b ∷ accounts) (suc i) a there = tasks-at p accounts i a there

tasks-set : (p : Program) (accounts : List Account) (i : ℕ) (a : Account) → slice_set (map (as_task p) accounts) i (as_task p a) ≡ map (as_task p) (slice_set accounts i a)
tasks-set p [] i a = refl
tasks-set p (b ∷ accounts) zero a = refl
tasks-set p (b ∷ accounts) (suc i) a = ap (λ (xs : List TaskState). as_task p b ∷ xs) (tasks-set p accounts i a)

-- no wake is to come
tasks-woken : (t : ℕ) (p : Program) (accounts : List Account) → map (woken_task t) (map (as_task p) accounts) ≡ map (as_task p) accounts
tasks-woken t p [] = refl
tasks-woken t p (a ∷ accounts) = ap (λ (xs : List TaskState). as_task p a ∷ xs) (tasks-woken t p accounts)

tasks-fits : (t : ℕ) (p : Program) (accounts : List Account) → Each (TaskFits t) (map (as_task p) accounts) → All (Fits t) accounts
tasks-fits t p [] each = All-nil (Fits t)
tasks-fits t p (a ∷ accounts) each = All-cons (Fits t) a accounts (each.0 refl) (tasks-fits t p accounts each.1)

-- ---- a tick

-- what holds of these servers at tick t
abbrev AreKept : ℕ → ℕ → Program → List Account → Type 0
AreKept h t p accounts = Holds h t (t + 1) (map (as_task p) accounts)

kept-spent : (h t : ℕ) (p : Program) (accounts : List Account) (least : ℕ × ℕ) (a : Account) → 1 ≤ h → AreKept h t p accounts
    → next_server accounts ≡ Some least → slice_get accounts least.1 ≡ Some a → AreKept h (t + 1) p (slice_set accounts least.1 (spent a))
kept-spent h t p accounts least a some now is there =
    let tasks = map (as_task p) accounts in
    let x = as_task p a in
    let i = least.1 in
    let at : slice_get tasks i ≡ Some x = tasks-at p accounts i a there in
    let name : named tasks ≡ Some least = ap (least_from 0) (tasks-keys p accounts) ∙ is in
    let first = named-least tasks i x (named_by tasks least x name at) in
    let load = same-load h i tasks x (as_task p (spent a)) at (spent-claim h a) now.load in
    let ran = serves h t i tasks x p Next some now at refl first tt load in
    let later = subst (Holds h (t + 1) (t + 1)) (tasks-set p accounts i (spent a)) ran in
    let row = slice_set accounts i (spent a) in
    subst (Holds h (t + 1) (t + 1 + 1)) (tasks-woken (t + 1) p row) (wakes h (t + 1) (map (as_task p) row) later)

kept-tick : (h t : ℕ) (p : Program) (accounts : List Account) → 1 ≤ h → 1 ≤ length accounts → AreKept h t p accounts → AreKept h (t + 1) p (after_tick accounts)
kept-tick h t p accounts some nonempty now =
    let least = next-some accounts (next_server accounts) nonempty refl in
    let there = next-there accounts least.0 least.1 in
    rw (tick-is accounts least.0 there.0 least.1 there.1) (kept-spent h t p accounts least.0 there.0 some now least.1 there.1)

-- ---- the first tick

tasks-awake : (p : Program) (ss : List SetTask) → map (woken_task 0) (map (unwoken_task (λ s. p) (λ s. 0)) ss) ≡ map (as_task p) (map awake (task_params ss))
tasks-awake p [] = refl
tasks-awake p (s ∷ ss) = let others = tasks-awake p ss in rw others refl

kept-first : (set : TaskSet) (p : Program) → IsAdmittedSet set → AreKept set.hyper 0 p (map awake (task_params set.tasks))
kept-first set p ok =
    let first = unwoken_task (λ s. p) (λ s. 0) in
    subst (Holds set.hyper 0 1) (tasks-awake p set.tasks) (wakes set.hyper 0 (map first set.tasks) (begins (λ s. p) (λ s. 0) set.hyper set.tasks ok))

-- ---- each tick

kept : (set : TaskSet) (p : Program) (n : ℕ) → IsAdmittedSet set → AreKept set.hyper n p (busy_servers (task_params set.tasks) n)
unfolding after_ticks
kept set p zero ok = kept-first set p ok
kept set p (suc n) ok =
    let at : n + 1 ≡ suc n = omega arith in
    let accounts = busy_servers (task_params set.tasks) n in
    let ran = ran-busy set.hyper n (task_params set.tasks) ok.nonempty ok.eligible in
    subst (λ m. AreKept set.hyper m p (after_tick accounts)) at (kept-tick set.hyper n p accounts ok.hyper_positive ran.some (kept set p n ok))

any_program : (ss : List SetTask) → 1 ≤ length (task_params ss) → Program
any_program [] some = absurd (omega arith)
any_program (s ∷ ss) some = first_program s

servers_fit : (set : TaskSet) (n : ℕ) → IsAdmittedSet set → All (Fits n) (busy_servers (task_params set.tasks) n)
servers_fit set n ok =
    let p = any_program set.tasks ok.nonempty in
    let accounts = busy_servers (task_params set.tasks) n in
    tasks-fits n p accounts (fits-each set.hyper n (n + 1) (map (as_task p) accounts) ok.hyper_positive (kept set p n ok))

pub all_fit_busy : (set : TaskSet) (t : ℕ) → IsAdmittedSet set → AllFit (busy_at set t)
unfolding busy_at
all_fit_busy set t ok =
    tasks-fit t 0 t (busy set t) (all_at_once set).tasks (busy_servers (task_params set.tasks) t) (stands set t) (servers_fit set t ok)
