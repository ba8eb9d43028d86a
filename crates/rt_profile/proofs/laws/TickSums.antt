-- Rows and addresses tell each tick of a legal history once.
use Rattle.rt_profile.proofs.Common.{◌≡◌, ℕ, zero, suc, ◌+◌, ◌<◌, ◌≤◌, ◌==◌, Bool, true, false, cond, List, [], ◌∷◌, ◌++◌, length, None, refl, ap, ◌∙◌, arith, sum_by, sum, nat_tests, sum_by-cons, SetTask, TaskSet, Attempt, Record, Idle, Busy, legal, is_idle, idle_ticks, attempts, part, pcs, ticks_at, row_at, firsts}
use Rattle.std.proofs.Common.{not}
use Rattle.std.specs.List.{enumerate_from}
use Rattle.std.proofs.lemmas.List.Sums.{sum-map}
use Rattle.rt_history.specs.Legal.{record_at, stands_after, state_at}
use Rattle.rt_history.proofs.Steps.{length-legal, tasks-count, busy-below}
use Rattle.rt_profile.specs.Rows.{task_rows, rows}
use Rattle.rt_profile.specs.CallgrindText.{busy_ticks}
use Rattle.rt_profile.proofs.PartLemmas.{count-cons}
use Rattle.rt_profile.specs.laws.Sums.{task_counts, address_counts}
use Rattle.rt_profile.proofs.laws.SumLemmas.{one_if, sum-same, sum-add, sum-none, sum-flat, sum-keys}
use Rattle.rt_profile.proofs.laws.AddressLaws.{pcs-once}
use Rattle.rt_profile.proofs.laws.PartLaws.{rows-once}
use Rattle.rt_profile.proofs.laws.MostSums.{sum-of-rows}

-- ---- each record is of one task

-- the records are of the first n tasks
abbrev AreOf : ℕ → List Record → Type 0
AreOf n [] = Unit {0}
AreOf n (Idle ∷ h) = AreOf n h
AreOf n (Busy a ∷ h) = (a.task < n) × AreOf n h

of-push : (n : ℕ) (h : List Record) (r : Record) → ((a : Attempt) → Busy a ≡ r → a.task < n) → AreOf n h → AreOf n (h ++ r ∷ [])
of-push n [] Idle below all = tt
of-push n [] (Busy a) below all = (below a refl, tt)
of-push n (Idle ∷ h) r below all = of-push n h r below all
of-push n (Busy a ∷ h) r below all = (all.0, of-push n h r below all.1)

count-tasks : (set : TaskSet) (t : ℕ) → length (stands_after set t (legal set t)).tasks ≡ length set.tasks
unfolding state_at
count-tasks set t = tasks-count set t

legal-of : (set : TaskSet) (t : ℕ) → AreOf (length set.tasks) (legal set t)
unfolding legal
legal-of set zero = tt
legal-of set (suc t) =
    let m = stands_after set t (legal set t) in
    of-push (length set.tasks) (legal set t) (record_at m) (λ a same. omega (arith, busy-below m a same, count-tasks set t)) (legal-of set t)

none-before : (j i : ℕ) (ss : List SetTask) → j < i → sum_by (λ n. one_if (j == n.0)) (enumerate_from i ss) ≡ 0
none-before j i [] less = refl
none-before j i (s ∷ ss) less =
    let apart : (j == i) ≡ false = grind (arith, nat_tests) in
    let one : one_if (j == i) ≡ 0 = ap one_if apart in
    omega (arith, sum_by-cons (λ n. one_if (j == n.0)) (i, s) (enumerate_from (i + 1) ss), one, none-before j (i + 1) ss (omega (arith, less)))

one-task : (j i : ℕ) (ss : List SetTask) → i ≤ j → j < i + length ss → sum_by (λ n. one_if (j == n.0)) (enumerate_from i ss) ≡ 1
one-task j i [] from below = absurd (omega (arith, from, below))
one-task j i (s ∷ ss) from below = by_task (j == i) refl (λ more. one-task j (i + 1) ss more (omega (arith, below)))
  where
    cons : sum_by (λ n. one_if (j == n.0)) (enumerate_from i (s ∷ ss)) ≡ one_if (j == i) + sum_by (λ n. one_if (j == n.0)) (enumerate_from (i + 1) ss)
    cons = sum_by-cons (λ n. one_if (j == n.0)) (i, s) (enumerate_from (i + 1) ss)

    by_task : (b : Bool) → (j == i) ≡ b → (i + 1 ≤ j → sum_by (λ n. one_if (j == n.0)) (enumerate_from (i + 1) ss) ≡ 1)
        → sum_by (λ n. one_if (j == n.0)) (enumerate_from i (s ∷ ss)) ≡ 1
    by_task true same rest =
        let less : j < i + 1 = grind (arith, nat_tests) in
        let one : one_if (j == i) ≡ 1 = ap one_if same in
        omega (arith, cons, one, none-before j (i + 1) ss less)
    by_task false other rest =
        let more : i + 1 ≤ j = grind (arith, nat_tests) in
        let none : one_if (j == i) ≡ 0 = ap one_if other in
        omega (arith, cons, none, rest more)

own-more : (i : ℕ) (a : Attempt) (h : List Record) → length (attempts i (Busy a ∷ h)) ≡ one_if (a.task == i) + length (attempts i h)
own-more i a h = elim (a.task == i) as (λ b. length (cond b (a ∷ attempts i h) (attempts i h)) ≡ one_if b + length (attempts i h)) [ true ↦ omega arith | false ↦ omega arith ]

attempts-sum : (ss : List SetTask) (h : List Record) → AreOf (length ss) h → sum_by (λ n. length (attempts n.0 h)) (enumerate_from 0 ss) ≡ busy_ticks h
attempts-sum ss [] all = sum-none (enumerate_from 0 ss)
attempts-sum ss (Idle ∷ h) all = omega (arith, attempts-sum ss h all, count-cons (λ r. not (is_idle r)) Idle h)
attempts-sum ss (Busy a ∷ h) all =
    let ns = enumerate_from 0 ss in
    let split = sum-same (λ n. length (attempts n.0 (Busy a ∷ h))) (λ n. one_if (a.task == n.0) + length (attempts n.0 h)) ns (λ n. own-more n.0 a h) in
    let parts = sum-add (λ n. one_if (a.task == n.0)) (λ n. length (attempts n.0 h)) ns in
    let one = one-task a.task 0 ss (omega arith) (omega (arith, all.0)) in
    omega (arith, split, parts, one, attempts-sum ss h all.1, count-cons (λ r. not (is_idle r)) (Busy a) h)

busy-and-idle : (h : List Record) → busy_ticks h + idle_ticks h ≡ length h
busy-and-idle [] = refl
busy-and-idle (Idle ∷ h) = omega (arith, busy-and-idle h, count-cons (λ r. not (is_idle r)) Idle h, count-cons is_idle Idle h)
busy-and-idle (Busy a ∷ h) = omega (arith, busy-and-idle h, count-cons (λ r. not (is_idle r)) (Busy a) h, count-cons is_idle (Busy a) h)

-- ---- rows

task-ticks : (i : ℕ) (s : SetTask) (h : List Record) → sum_by (λ r. r.ticks) (task_rows i s h) ≡ length (attempts i h)
task-ticks i s h =
    let ls = s.object.labels in
    let rs = attempts i h in
    let fs = firsts ls None (pcs rs) in
    sum-of-rows (λ r. r.ticks) (row_at i ls rs) fs ∙ sum-keys (λ r. part ls r.pc) (part ls) fs rs rs (λ k. rows-once ls k rs) (λ k. omega arith)

pub rows-sum : (set : TaskSet) (t : ℕ) → sum_by (λ r. r.ticks) (rows set (legal set t)) + idle_ticks (legal set t) ≡ t
rows-sum set t =
    let h = legal set t in
    let ns = enumerate_from 0 set.tasks in
    let flat = sum-flat (λ r. r.ticks) (λ n. task_rows n.0 n.1 h) ns in
    let each = sum-same (λ n. sum_by (λ r. r.ticks) (task_rows n.0 n.1 h)) (λ n. length (attempts n.0 h)) ns (λ n. task-ticks n.0 n.1 h) in
    omega (arith, flat, each, attempts-sum set.tasks h (legal-of set t), busy-and-idle h, length-legal set t)

-- ---- addresses

task-addresses : (i : ℕ) (h : List Record) → sum (task_counts i h) ≡ length (attempts i h)
task-addresses i h =
    let rs = attempts i h in
    sum-map (ticks_at rs) (pcs rs) ∙ sum-keys (λ r. r.pc) (λ (a : ℕ). a) (pcs rs) rs rs (λ k. pcs-once k rs) (λ k. omega arith)

pub addresses-sum : (set : TaskSet) (t : ℕ) → sum (address_counts set (legal set t)) ≡ busy_ticks (legal set t)
addresses-sum set t =
    let h = legal set t in
    let ns = enumerate_from 0 set.tasks in
    let flat = sum-flat (λ (k : ℕ). k) (λ n. task_counts n.0 h) ns in
    let each = sum-same (λ n. sum (task_counts n.0 h)) (λ n. length (attempts n.0 h)) ns (λ n. task-addresses n.0 h) in
    omega (arith, flat, each, attempts-sum set.tasks h (legal-of set t))
