-- At each time one task runs, or the tick is idle.
use Rattle.rt_waves.proofs.Common.{◌≡◌, ℕ, ◌+◌, ◌<◌, ◌≤◌, ◌==◌, Bool, true, false, cond, List, [], ◌∷◌, length, map, count_by, refl, sym, ap, ◌∙◌, arith, enumerate_from, nat_tests, SetTask, TaskSet, Attempt, Record, Idle, Busy, record_at, state_at, is_idle, outcome_of, task_waves, waves}
use Rattle.std.proofs.Common.{is_some}
use Rattle.rt_history.proofs.Steps.{tasks-count, busy-below}
use Rattle.rt_waves.proofs.laws.Counting.{one_if, count-cons}

abbrev runs_in : Record → ℕ × SetTask → Bool
runs_in r n = is_some (outcome_of n.0 r)

running-are : (set : TaskSet) (u i : ℕ) (ss : List SetTask)
    → count_by (λ w. w.running) (map (λ n. task_waves set u n.0 n.1) (enumerate_from i ss)) ≡ count_by (runs_in (record_at (state_at set u))) (enumerate_from i ss)
running-are set u i [] = refl
running-are set u i (s ∷ ss) =
    let later = map (λ n. task_waves set u n.0 n.1) (enumerate_from (i + 1) ss) in
    omega (arith, count-cons (λ w. w.running) (task_waves set u i s) later, count-cons (runs_in (record_at (state_at set u))) (i, s) (enumerate_from (i + 1) ss), running-are set u (i + 1) ss)

none-idle : (i : ℕ) (ss : List SetTask) → count_by (runs_in Idle) (enumerate_from i ss) ≡ 0
none-idle i [] = refl
none-idle i (s ∷ ss) = omega (arith, count-cons (runs_in Idle) (i, s) (enumerate_from (i + 1) ss), none-idle (i + 1) ss)

other : (a : Attempt) (i : ℕ) (s : SetTask) → (a.task == i) ≡ false → one_if (runs_in (Busy a) (i, s)) ≡ 0
other a i s is = rw is refl

own : (a : Attempt) (i : ℕ) (s : SetTask) → (a.task == i) ≡ true → one_if (runs_in (Busy a) (i, s)) ≡ 1
own a i s is = rw is refl

none-behind : (a : Attempt) (i : ℕ) (ss : List SetTask) → a.task < i → count_by (runs_in (Busy a)) (enumerate_from i ss) ≡ 0
none-behind a i [] less = refl
none-behind a i (s ∷ ss) less =
    let differs : (a.task == i) ≡ false = grind (arith, nat_tests) in
    omega (arith, count-cons (runs_in (Busy a)) (i, s) (enumerate_from (i + 1) ss), other a i s differs, none-behind a (i + 1) ss (omega (arith, less)))

one-busy : (a : Attempt) (i : ℕ) (ss : List SetTask) → i ≤ a.task → a.task < i + length ss → count_by (runs_in (Busy a)) (enumerate_from i ss) ≡ 1
one-busy a i [] from below = absurd (omega (arith, from, below))
one-busy a i (s ∷ ss) from below = by_task (a.task == i) refl (λ more. one-busy a (i + 1) ss more (omega (arith, below)))
  where
    cons : count_by (runs_in (Busy a)) (enumerate_from i (s ∷ ss)) ≡ one_if (runs_in (Busy a) (i, s)) + count_by (runs_in (Busy a)) (enumerate_from (i + 1) ss)
    cons = count-cons (runs_in (Busy a)) (i, s) (enumerate_from (i + 1) ss)

    by_task : (b : Bool) → (a.task == i) ≡ b → (i + 1 ≤ a.task → count_by (runs_in (Busy a)) (enumerate_from (i + 1) ss) ≡ 1)
        → count_by (runs_in (Busy a)) (enumerate_from i (s ∷ ss)) ≡ 1
    by_task true is rest =
        let less : a.task < i + 1 = grind (arith, nat_tests) in
        omega (arith, cons, own a i s is, none-behind a (i + 1) ss less)
    by_task false is rest =
        let more : i + 1 ≤ a.task = grind (arith, nat_tests) in
        omega (arith, cons, other a i s is, rest more)

pub one-runs : (set : TaskSet) (u : ℕ) → cond (waves set u).idle 1 0 + count_by (λ w. w.running) (waves set u).tasks ≡ 1
one-runs set u = by (record_at (state_at set u)) refl
  where
    tasks : (r : Record) → record_at (state_at set u) ≡ r → count_by (λ w. w.running) (waves set u).tasks ≡ count_by (runs_in r) (enumerate_from 0 set.tasks)
    tasks r is = running-are set u 0 set.tasks ∙ ap (λ (q : Record). count_by (runs_in q) (enumerate_from 0 set.tasks)) is

    idle : (r : Record) → record_at (state_at set u) ≡ r → one_if (waves set u).idle ≡ one_if (is_idle r)
    idle r is = ap (λ (q : Record). one_if (is_idle q)) is

    by : (r : Record) → record_at (state_at set u) ≡ r → one_if (waves set u).idle + count_by (λ w. w.running) (waves set u).tasks ≡ 1
    by Idle is = omega (arith, tasks Idle is, idle Idle is, none-idle 0 set.tasks)
    by (Busy a) is =
        let below : a.task < 0 + length set.tasks = omega (arith, busy-below (state_at set u) a (sym is), tasks-count set u) in
        omega (arith, tasks (Busy a) is, idle (Busy a) is, one-busy a 0 set.tasks (omega arith) below)
