-- The failures that are seen in what a report keeps are those of the own part.
use Rattle.rt_report.proofs.Common.{◌≡◌, ℕ, ◌+◌, ◌≤◌, Bool, true, false, cond, List, [], ◌∷◌, length, count_by, slice_get, Option, Some, None, refl, sym, ap, ◌∙◌, arith, option_map, option_map_or, nat_tests, sum_by-cons, SetTask, TaskSet, AttemptOutcome, Record, Serving, first_serving, due, after, own, serving_after, is_hard, jobs, legal, period-stays, open_job, TaskReport, task_report, report_at}
use Rattle.std.proofs.Common.{nat_lt, ◌||◌, not}
use Rattle.std.specs.List.{list_any}
use Rattle.std.proofs.lemmas.List.Sums.{count_by-le-length}
use Rattle.rt_report.specs.WideRows.{Moment, moments, is_refusal, is_over}
use Rattle.rt_report.specs.declared.failing.Failing.{Failing}
use Rattle.rt_report.specs.declared.failing.Failing.TheVariants as failing
use Rattle.rt_report.specs.Failures.{is_overdue, released_by, fails_by, has_failed}
use Rattle.rt_report.specs.Working.Seen.{seen, seen_at}
use Rattle.rt_report.proofs.JobLineLaws.{report-of}

-- ---- counts

-- some are counted where one passes
any-counted : {X : Type 0} (p : X → Bool) (xs : List X) → nat_lt 0 (count_by p xs) ≡ list_any p xs
any-counted p [] = refl
any-counted p (x ∷ xs) =
    let rest = any-counted p xs in
    let n = count_by p xs in
    ap (nat_lt 0) (sum_by-cons (λ y. cond (p y) 1 0) x xs)
    ∙ elim (p x) as (λ b. nat_lt 0 (cond b 1 0 + n) ≡ (b || list_any p xs)) [
      | true ↦ (let some : nat_lt 0 (1 + n) ≡ true = grind (arith, nat_tests) in some)
      | false ↦ (let same : 0 + n ≡ n = omega arith in ap (nat_lt 0) same ∙ rest)
    ]

-- fewer pass than there are where one doesn't
any-other : {X : Type 0} (p : X → Bool) (xs : List X) → nat_lt (count_by p xs) (length xs) ≡ list_any (λ x. not (p x)) xs
any-other p [] = refl
any-other p (x ∷ xs) =
    let rest = any-other p xs in
    let n = count_by p xs in
    let most : n ≤ length xs = count_by-le-length p xs in
    ap (λ (k : ℕ). nat_lt k (length (x ∷ xs))) (sum_by-cons (λ y. cond (p y) 1 0) x xs)
    ∙ elim (p x) as (λ b. nat_lt (cond b 1 0 + n) (length (x ∷ xs)) ≡ (not b || list_any (λ y. not (p y)) xs)) [
      | true ↦ (let same : nat_lt (1 + n) (length (x ∷ xs)) ≡ nat_lt n (length xs) = grind (arith, nat_tests) in same ∙ rest)
      | false ↦ (let some : nat_lt (0 + n) (length (x ∷ xs)) ≡ true = grind (arith, nat_tests) in some)
    ]

-- of records with how the task stood before them as many are such as of the records
moments-count : (f : AttemptOutcome → Bool) (s : Serving) (es : List (ℕ × AttemptOutcome))
    → count_by (λ (m : Moment). f m.outcome) (moments s es) ≡ count_by (λ (e : ℕ × AttemptOutcome). f e.1) es
moments-count f s [] = refl
moments-count f s (e ∷ es) =
    let later = after e.0 e.1 (due e.0 s).account in
    let first : Moment = record { tick = e.0; outcome = e.1; before = s } in
    sum_by-cons (λ (m : Moment). cond (f m.outcome) 1 0) first (moments later es) ∙ ap (λ (n : ℕ). cond (f e.1) 1 0 + n) (moments-count f later es)
    ∙ sym (sum_by-cons (λ (k : ℕ × AttemptOutcome). cond (f k.1) 1 0) e es)

-- ---- a task

seen-is : (what : Failing) (t i : ℕ) (h : List Record) (s : SetTask) → seen what t (fails_by failing.Lost t s (own i h)) (task_report h i s) ≡ fails_by what t s (own i h)
seen-is failing.Fault t i h s = refl
seen-is failing.Over t i h s =
    let before = own i h in
    let mode = (serving_after (first_serving s) before).mode in
    let release = (open_job s before).release.tick in
    ap (λ b. b || is_overdue t (serving_after (first_serving s) before).account.p mode release) (any-counted (is_over s.period) (jobs s before))
    ∙ ap (λ (p : ℕ). list_any (is_over s.period) (jobs s before) || is_overdue t p mode release) (period-stays (first_serving s) before)
seen-is failing.Soft t i h s = any-other is_hard (jobs s (own i h))
seen-is failing.Refused t i h s =
    ap (nat_lt 0) (moments-count is_refusal (first_serving s) (own i h)) ∙ any-counted (λ (e : ℕ × AttemptOutcome). is_refusal e.1) (own i h)
seen-is failing.Few t i h s =
    ap (λ (p : ℕ). nat_lt (length (jobs s (own i h))) (released_by s.start p t)) (period-stays (first_serving s) (own i h))
seen-is failing.Lost t i h s = refl

found-seen : (what : Failing) (t i : ℕ) (h : List Record) (found : Option SetTask) (full : Bool) → full ≡ option_map_or (λ s. fails_by failing.Lost t s (own i h)) found false
    → option_map_or (seen what t full) (option_map (task_report h i) found) false ≡ option_map_or (λ s. fails_by what t s (own i h)) found false
found-seen what t i h None full is = refl
found-seen what t i h (Some s) full is = ap (λ (b : Bool). seen what t b (task_report h i s)) is ∙ seen-is what t i h s

pub seen_is : (what : Failing) (full : Bool) (set : TaskSet) (t i : ℕ) → full ≡ has_failed failing.Lost set t (legal set t) i
    → seen_at what full (report_at set t) i ≡ has_failed what set t (legal set t) i
unfolding report_at
seen_is what full set t i is =
    let h = legal set t in
    let place : 0 + i ≡ i = omega arith in
    ap (λ (x : Option TaskReport). option_map_or (seen what t full) x false)
    (report-of h 0 i set.tasks ∙ ap (λ (m : ℕ). option_map (task_report h m) (slice_get set.tasks i)) place)
    ∙ found-seen what t i h (slice_get set.tasks i) full is
