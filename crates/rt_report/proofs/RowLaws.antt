-- What the laws of scheduling say of the rows of an admitted set.
use Rattle.rt_report.proofs.Common.{◌≡◌, ℕ, zero, suc, ◌+◌, Bool, true, false, cond, List, [], ◌∷◌, length, All, count_by, map, slice_get, Some, refl, sym, ap, subst, ◌∙◌, arith, add-zero, enumerate_from, sum_by-cons, SetTask, TaskSet, Record, is_hard, is_late, jobs, legal, own, Row, row_of, rows}
use Rattle.std.proofs.lemmas.List.Elements.{All-cons, All-head, All-tail}
use Rattle.rt_history.specs.Admitted.{IsAdmittedSet}
use Rattle.rt_laws.specs.Periodic.{ArePeriodic}
use Rattle.rt_laws.proofs.Lateness.{none_late}
use Rattle.rt_laws.proofs.Periods.{all_periodic_hard}

-- ---- counts

count-none : {A : Type 0} (p : A → Bool) (js : List A) → All (λ j. p j ≡ false) js → count_by p js ≡ 0
count-none p [] none = refl
count-none p (j ∷ js) none =
    sum_by-cons (λ x. cond (p x) 1 0) j js ∙ ap (λ b. cond b 1 0 + count_by p js) (All-head (λ j. p j ≡ false) j js none)
    ∙ ap (λ n. 0 + n) (count-none p js (All-tail (λ j. p j ≡ false) j js none))

count-each : {A : Type 0} (p : A → Bool) (js : List A) → All (λ j. p j ≡ true) js → count_by p js ≡ length js
count-each p [] each = refl
count-each p (j ∷ js) each =
    sum_by-cons (λ x. cond (p x) 1 0) j js ∙ ap (λ b. cond b 1 0 + count_by p js) (All-head (λ j. p j ≡ true) j js each)
    ∙ ap (λ n. 1 + n) (count-each p js (All-tail (λ j. p j ≡ true) j js each)) ∙ omega arith

-- ---- rows by number

all_rows : (P : Row → Type 0) (h : List Record) (i : ℕ) (ss : List SetTask) → ((k : ℕ) (s : SetTask) → slice_get ss k ≡ Some s → P (row_of (i + k) s (own (i + k) h))) → All P (map (λ n. row_of n.0 n.1 (own n.0 h)) (enumerate_from i ss))
all_rows P h i [] each = λ k d below. absurd (omega arith)
all_rows P h i (s ∷ ss) each =
    let first : P (row_of i s (own i h)) = subst (λ (n : ℕ). P (row_of n s (own n h))) (omega arith) (each 0 s refl) in
    let later = all_rows P h (i + 1) ss (λ k x there. subst (λ (n : ℕ). P (row_of n x (own n h))) (omega arith) (each (suc k) x there)) in
    All-cons P (row_of i s (own i h)) (map (λ n. row_of n.0 n.1 (own n.0 h)) (enumerate_from (i + 1) ss)) first later

row_at : (h : List Record) (i k : ℕ) (ss : List SetTask) (s : SetTask) (r : Row) → slice_get ss k ≡ Some s → slice_get (map (λ n. row_of n.0 n.1 (own n.0 h)) (enumerate_from i ss)) k ≡ Some r → r ≡ row_of (i + k) s (own (i + k) h)
row_at h i k [] s r there found = absurd cc
row_at h i zero (x ∷ ss) s r there found =
    let task : x ≡ s = cc in
    let row : row_of i x (own i h) ≡ r = cc in
    sym row ∙ ap (λ (y : SetTask). row_of i y (own i h)) task ∙ ap (λ (n : ℕ). row_of n s (own n h)) (sym (add-zero i))
row_at h i (suc k) (x ∷ ss) s r there found =
    let at : (i + 1) + k ≡ i + suc k = omega arith in
    row_at h (i + 1) k ss s r there found ∙ ap (λ (n : ℕ). row_of n s (own n h)) at

-- ---- the laws

-- no row has a late job
pub no_row_late : (set : TaskSet) (t : ℕ) → IsAdmittedSet set → All (λ r. r.late ≡ 0) (rows set (legal set t))
no_row_late set t ok =
    all_rows (λ r. r.late ≡ 0) (legal set t) 0 set.tasks (λ k s there.
    let at : slice_get set.tasks (0 + k) ≡ Some s = subst (λ (n : ℕ). slice_get set.tasks n ≡ Some s) (omega arith) there in
    count-none (is_late s.period) (jobs s (own (0 + k) (legal set t))) (none_late set t (0 + k) s ok at))

-- each finished job of a periodic task is hard
pub row_hard : (set : TaskSet) (t i : ℕ) (s : SetTask) (r : Row) → IsAdmittedSet set → slice_get set.tasks i ≡ Some s → slice_get (rows set (legal set t)) i ≡ Some r
    → ArePeriodic s.period (jobs s (own i (legal set t))) → r.hard ≡ r.jobs
row_hard set t i s r ok there found periodic =
    let place : 0 + i ≡ i = omega arith in
    let row : r ≡ row_of i s (own i (legal set t)) = row_at (legal set t) 0 i set.tasks s r there found ∙ ap (λ (n : ℕ). row_of n s (own n (legal set t))) place in
    ap (λ (x : Row). x.hard) row ∙ count-each is_hard (jobs s (own i (legal set t))) (all_periodic_hard set t i s ok there periodic)
    ∙ sym (ap (λ (x : Row). x.jobs) row)
