-- The rows of a report, from the lines of the finished jobs.
use Rattle.rt_report.proofs.Common.{◌≡◌, ℕ, zero, suc, ◌+◌, ◌==◌, Bool, true, false, cond, List, [], ◌∷◌, ◌++◌, length, map, count_by, slice_get, Option, Some, None, refl, sym, ap, subst, ◌∙◌, arith, enumerate_from, option_map_or, nat_tests, append-nil, sum_by-cons, SetTask, TaskSet, Attempt, Record, Idle, Busy, own, Job, response, is_hard, is_late, ends_job, jobs, record_at, legal, length-legal, FinishedJob, Row, row_of, rows, finished_job, finished_jobs}
use Rattle.std.specs.List.{filter}
use Rattle.std.proofs.lemmas.List.{length-map}
use Rattle.std.proofs.lemmas.List.Elements.{filter-append}
use Rattle.std.proofs.lemmas.List.FromFn.{length-enumerate_from}
use Rattle.rt_history.specs.Legal.{stands_after}
use Rattle.rt_report.specs.Rows.{row_with}
use Rattle.rt_report.specs.JobLines.{jobs_of}
use Rattle.rt_report.specs.RowsOfLines.{counted, rows_of_lines}
use Rattle.rt_report.proofs.JobLineLaws.{numbered, new_job, new_jobs, new_by, jobs_of-idle, jobs_of-other, jobs_of-own, filter-new, finished-idle, finished-busy}

-- ---- the lines of a task are its jobs

abbrev is_of : ℕ → FinishedJob → Bool
is_of i j = j.task == i

new-other : (t i : ℕ) (h : List Record) (a : Attempt) (found : Option SetTask) → (a.task == i) ≡ false
    → filter (is_of i) (option_map_or (λ s. new_jobs a.task s (own a.task h) t a.outcome) found []) ≡ []
new-other t i h a None differs = refl
new-other t i h a (Some s) differs = filter-new (is_of i) (ends_job a.outcome) false (new_job a.task s (own a.task h) t a.outcome) differs

new-own : (set : TaskSet) (t i : ℕ) (s : SetTask) (h : List Record) (a : Attempt) → slice_get set.tasks i ≡ Some s → a.task ≡ i
    → filter (is_of i) (new_by set t h a) ≡ new_jobs i s (own i h) t a.outcome
new-own set t i s h a there task =
    let hits : (i == i) ≡ true = grind (arith, nat_tests) in
    ap (λ (k : ℕ). filter (is_of i) (option_map_or (λ x. new_jobs k x (own k h) t a.outcome) (slice_get set.tasks k) [])) task
    ∙ ap (λ (found : Option SetTask). filter (is_of i) (option_map_or (λ x. new_jobs i x (own i h) t a.outcome) found [])) there
    ∙ filter-new (is_of i) (ends_job a.outcome) true (new_job i s (own i h) t a.outcome) hits

lines-more : (set : TaskSet) (t i : ℕ) (s : SetTask) (h : List Record) (r : Record) → length h ≡ t → slice_get set.tasks i ≡ Some s
    → filter (is_of i) (finished_jobs set h) ≡ jobs_of i s h → filter (is_of i) (finished_jobs set (h ++ r ∷ [])) ≡ jobs_of i s (h ++ r ∷ [])
lines-more set t i s h Idle len there before =
    ap (filter (is_of i)) (finished-idle set t 1 h len) ∙ before ∙ sym (jobs_of-idle t i 1 s h len)
lines-more set t i s h (Busy a) len there before =
    let new = new_by set t h a in
    let more : List FinishedJob → List FinishedJob = λ xs. jobs_of i s h ++ xs in
    ap (filter (is_of i)) (finished-busy set t h a len) ∙ filter-append (is_of i) (finished_jobs set h) new
    ∙ ap (λ (xs : List FinishedJob). xs ++ filter (is_of i) new) before
    ∙ elim (a.task == i) as (λ b. (a.task == i) ≡ b → jobs_of i s h ++ filter (is_of i) new ≡ jobs_of i s (h ++ Busy a ∷ [])) [
      | true ↦ λ hits.
          let task : a.task ≡ i = grind (arith, nat_tests) in
          ap more (new-own set t i s h a there task) ∙ sym (jobs_of-own t i s h a len hits)
      | false ↦ λ differs.
          ap more (new-other t i h a (slice_get set.tasks a.task) differs) ∙ append-nil (jobs_of i s h) ∙ sym (jobs_of-other t i s h a len differs)
    ] refl

lines-are : (set : TaskSet) (i : ℕ) (s : SetTask) (t : ℕ) → slice_get set.tasks i ≡ Some s → filter (is_of i) (finished_jobs set (legal set t)) ≡ jobs_of i s (legal set t)
unfolding legal
lines-are set i s zero there = refl
lines-are set i s (suc t) there =
    lines-more set t i s (legal set t) (record_at (stands_after set t (legal set t))) (length-legal set t) there (lines-are set i s t there)

-- ---- a row from them

responses-are : (i period n : ℕ) (js : List Job) → map (λ (j : FinishedJob). j.response) (numbered i period n js) ≡ map response js
responses-are i period n [] = refl
responses-are i period n (j ∷ js) = ap (λ (xs : List ℕ). response j ∷ xs) (responses-are i period (n + 1) js)

count-lines : (p : FinishedJob → Bool) (q : Job → Bool) (i period n : ℕ) (js : List Job) → ((k : ℕ) (j : Job) → p (finished_job i period k j) ≡ q j)
    → count_by p (numbered i period n js) ≡ count_by q js
count-lines p q i period n [] same = refl
count-lines p q i period n (j ∷ js) same =
    sum_by-cons (λ x. cond (p x) 1 0) (finished_job i period n j) (numbered i period (n + 1) js)
    ∙ ap (λ (b : Bool). cond b 1 0 + count_by p (numbered i period (n + 1) js)) (same n j)
    ∙ ap (λ (m : ℕ). cond (q j) 1 0 + m) (count-lines p q i period (n + 1) js same)
    ∙ sym (sum_by-cons (λ x. cond (q x) 1 0) j js)

row-counted : (i : ℕ) (s : SetTask) (ticks : ℕ) (js : List Job) → counted i ticks (numbered i s.period 0 js) ≡ row_with i s ticks js
row-counted i s ticks js =
    let count : length (numbered i s.period 0 js) ≡ length js = length-map (enumerate_from 0 js) (λ m. finished_job i s.period m.0 m.1) ∙ length-enumerate_from 0 js in
    let times = responses-are i s.period 0 js in
    let hard = count-lines (λ j. j.hard) is_hard i s.period 0 js (λ k j. refl) in
    let late = count-lines (λ j. j.late) (is_late s.period) i s.period 0 js (λ k j. refl) in
    rw (count, times, hard, late) refl

rows-counted : (set : TaskSet) (h : List Record) (i : ℕ) (ss : List SetTask)
    → ((k : ℕ) (s : SetTask) → slice_get ss k ≡ Some s → filter (is_of (i + k)) (finished_jobs set h) ≡ jobs_of (i + k) s h)
    → map (λ n. row_of n.0 n.1 (own n.0 h)) (enumerate_from i ss)
    ≡ map (λ n. counted n.0 (length (own n.0 h)) (filter (λ j. j.task == n.0) (finished_jobs set h))) (enumerate_from i ss)
rows-counted set h i [] lines = refl
rows-counted set h i (s ∷ ss) lines =
    let P : ℕ → SetTask → Type 0 = λ n x. filter (is_of n) (finished_jobs set h) ≡ jobs_of n x h in
    let here : P i s = subst (λ (n : ℕ). P n s) (omega arith) (lines 0 s refl) in
    let first : row_of i s (own i h) ≡ counted i (length (own i h)) (filter (is_of i) (finished_jobs set h)) =
    sym (row-counted i s (length (own i h)) (jobs s (own i h))) ∙ ap (counted i (length (own i h))) (sym here) in
    let later = rows-counted set h (i + 1) ss (λ k x there. subst (λ (n : ℕ). P n x) (omega arith) (lines (suc k) x there)) in
    ap (λ (r : Row). r ∷ map (λ n. row_of n.0 n.1 (own n.0 h)) (enumerate_from (i + 1) ss)) first
    ∙ ap (λ (rs : List Row). counted i (length (own i h)) (filter (is_of i) (finished_jobs set h)) ∷ rs) later

-- the rows of a legal history
pub rows_counted : (set : TaskSet) (t : ℕ) → rows set (legal set t) ≡ rows_of_lines set (legal set t)
rows_counted set t =
    let P : ℕ → SetTask → Type 0 = λ n x. filter (is_of n) (finished_jobs set (legal set t)) ≡ jobs_of n x (legal set t) in
    rows-counted set (legal set t) 0 set.tasks (λ k s there. subst (λ (n : ℕ). P n s) (omega arith) (lines-are set k s t there))
