-- A report over an entry stands where the legal history stands.
use Rattle.rt_report.proofs.Common.{◌≡◌, ℕ, zero, suc, ◌+◌, ◌<◌, ◌==◌, true, false, cond, List, [], ◌∷◌, ◌++◌, length, map, take, get_or, replicate, slice_get, slice_set, Option, Some, None, refl, sym, ap, ◌∙◌, arith, add-zero, enumerate_from, option_map_or, nat_tests, sum_by-cons, SetTask, TaskSet, AttemptOutcome, Attempt, Record, Idle, Busy, Entry, own, legal, ticks_of, GoesOnBy, length-legal, Row, row_of, rows, TaskReport, ReportState, task_report, wide_row_at, report_at, first_reports, tallied, tallied_at, added}
use Rattle.std.proofs.lemmas.List.Sums.{sum_by-append}
use Rattle.rt_admit.specs.declared.params.Params.{Params}
use Rattle.rt_history.specs.declared.record.Entry.TheVariants as entries
use Rattle.rt_history.specs.Admitted.{params_in, task_params}
use Rattle.rt_history.specs.OwnPart.{TaskState, task_state}
use Rattle.rt_history.specs.Entries.{records_of}
use Rattle.rt_history.specs.Working.Bounded.{IsTakeable}
use Rattle.rt_history.proofs.OwnPartLaws.{own-idle, own-other, own-own}
use Rattle.rt_report.specs.declared.wide_row.WideRow.{WideRow}
use Rattle.rt_report.specs.Rows.{is_idle, idle_ticks}
use Rattle.rt_report.specs.WideRows.{wide_row_of, wide_rows}
use Rattle.rt_report.specs.Working.Tallied.{first_report}
use Rattle.rt_history.proofs.TakenLaws.{IsTaken, legal-taken}
use Rattle.rt_report.proofs.TallyLaws.{report_from, report_more}

-- ---- tasks

-- tasks of which the first is task i
abbrev reports_from : List Record → ℕ → List SetTask → List TaskReport
reports_from h i ss = map (λ n. task_report h n.0 n.1) (enumerate_from i ss)

reports-idle : (t i n : ℕ) (h : List Record) (ss : List SetTask) → length h ≡ t → reports_from (h ++ replicate n Idle) i ss ≡ reports_from h i ss
reports-idle t i n h [] len = refl
reports-idle t i n h (s ∷ ss) len =
    let same : task_report (h ++ replicate n Idle) i s ≡ task_report h i s = ap (report_from i s) (own-idle t i n h len) in
    let others = reports-idle t (i + 1) n h ss len in
    rw (same, others) refl

reports-behind : (t i : ℕ) (h : List Record) (a : Attempt) (ss : List SetTask) → length h ≡ t → a.task < i → reports_from (h ++ Busy a ∷ []) i ss ≡ reports_from h i ss
reports-behind t i h a [] len below = refl
reports-behind t i h a (s ∷ ss) len below =
    let differs : (a.task == i) ≡ false = grind (arith, nat_tests) in
    let same : task_report (h ++ Busy a ∷ []) i s ≡ task_report h i s = ap (report_from i s) (own-other t i h a len differs) in
    let others = reports-behind t (i + 1) h a ss len (omega arith) in
    rw (same, others) refl

tallied-behind : (u : ℕ) (o : AttemptOutcome) (x : TaskReport) (xs : List TaskReport) (k : ℕ) (found : Option TaskReport)
    → option_map_or (λ y. slice_set (x ∷ xs) (suc k) (tallied u o y)) found (x ∷ xs) ≡ x ∷ option_map_or (λ y. slice_set xs k (tallied u o y)) found xs
tallied-behind u o x xs k None = refl
tallied-behind u o x xs k (Some y) = refl

-- the task of the record is k places behind the first of these, and its server can take it, or there is none
reports-busy : (t i k : ℕ) (h : List Record) (a : Attempt) (ss : List SetTask) → length h ≡ t → a.task ≡ i + k
    → ((x : TaskState) → slice_get (map (λ n. task_state t h n.0 n.1) (enumerate_from i ss)) k ≡ Some x → IsTakeable a.outcome x.serving.account)
    → reports_from (h ++ Busy a ∷ []) i ss ≡ tallied_at t a.outcome (reports_from h i ss) k
reports-busy t i zero h a [] len place takes = refl
reports-busy t i (suc k) h a [] len place takes = refl
reports-busy t i zero h a (s ∷ ss) len place takes =
    let hits : (a.task == i) ≡ true = grind (arith, nat_tests) in
    let first : task_report (h ++ Busy a ∷ []) i s ≡ tallied t a.outcome (task_report h i s) =
    ap (report_from i s) (own-own t i h a len hits) ∙ report_more i s (own i h) t a.outcome (takes (task_state t h i s) refl) in
    let others = reports-behind t (i + 1) h a ss len (omega arith) in
    rw (first, others) refl
reports-busy t i (suc k) h a (s ∷ ss) len place takes =
    let differs : (a.task == i) ≡ false = grind (arith, nat_tests) in
    let same : task_report (h ++ Busy a ∷ []) i s ≡ task_report h i s = ap (report_from i s) (own-other t i h a len differs) in
    let others = reports-busy t (i + 1) k h a ss len (omega arith) takes in
    let xs = reports_from h (i + 1) ss in
    ap (λ (x : TaskReport). x ∷ reports_from (h ++ Busy a ∷ []) (i + 1) ss) same
    ∙ ap (λ (ys : List TaskReport). task_report h i s ∷ ys) others
    ∙ sym (tallied-behind t a.outcome (task_report h i s) xs k (slice_get xs k))

-- ---- idle ticks

idle_all : (n : ℕ) → idle_ticks (replicate n Idle) ≡ n
idle_all zero = refl
idle_all (suc n) = omega (arith, sum_by-cons (λ r. cond (is_idle r) 1 0) Idle (replicate n Idle), idle_all n)

idle_more : (h : List Record) (n : ℕ) → idle_ticks (h ++ replicate n Idle) ≡ idle_ticks h + n
idle_more h n = sum_by-append (λ r. cond (is_idle r) 1 0) h (replicate n Idle) ∙ ap (λ (k : ℕ). idle_ticks h + k) (idle_all n)

idle_busy : (h : List Record) (a : Attempt) → idle_ticks (h ++ Busy a ∷ []) ≡ idle_ticks h
idle_busy h a = sum_by-append (λ r. cond (is_idle r) 1 0) h (Busy a ∷ []) ∙ omega arith

-- ---- the report

-- how a report stands after any history of t ticks
abbrev standing : TaskSet → ℕ → List Record → ReportState
standing set t h = record { tick = t; idle = idle_ticks h; tasks = reports_from h 0 set.tasks }

standing-more : (set : TaskSet) (t : ℕ) (h : List Record) (e : Entry) → length h ≡ t → IsTaken set t h e
    → standing set (t + ticks_of e) (h ++ records_of e) ≡ added e (standing set t h)
standing-more set t h (entries.Busy u a) len takes = rw (reports-busy t 0 a.task h a set.tasks len (omega arith) takes, idle_busy h a) refl
standing-more set t h (entries.Idle u n) len takes = rw (reports-idle t 0 n h set.tasks len, idle_more h n) refl

pub report_next : (set : TaskSet) (t : ℕ) (e : Entry) → GoesOnBy set t e → report_at set (t + ticks_of e) ≡ added e (report_at set t)
unfolding report_at
report_next set t e goes = ap (standing set (t + ticks_of e)) goes ∙ standing-more set t (legal set t) e (length-legal set t) (legal-taken set t e goes)

-- ---- at first

reports-first : (i : ℕ) (ss : List SetTask) → reports_from [] i ss ≡ map (λ n. first_report n.0 n.1) (enumerate_from i (task_params ss))
reports-first i [] = refl
reports-first i (s ∷ ss) = ap (λ (xs : List TaskReport). first_report i (params_in s) ∷ xs) (reports-first (i + 1) ss)

pub report_first : (set : TaskSet) (ps : List Params) → task_params set.tasks ≡ ps → report_at set 0 ≡ record { tick = 0; idle = 0; tasks = first_reports ps }
unfolding report_at legal
report_first set ps same =
    ap (λ (xs : List TaskReport). record { tick = 0; idle = 0; tasks = xs }) (reports-first 0 set.tasks ∙ ap first_reports same)

first_from : (i n : ℕ) (ps : List Params) (d : Params) → n < length ps
    → map (λ m. first_report m.0 m.1) (enumerate_from i (take (suc n) ps)) ≡ map (λ m. first_report m.0 m.1) (enumerate_from i (take n ps)) ++ first_report (i + n) (get_or ps n d) ∷ []
first_from i n [] d below = absurd (omega arith)
first_from i zero (p ∷ ps) d below = rw add-zero refl
first_from i (suc n) (p ∷ ps) d below =
    let at : (i + 1) + n ≡ i + suc n = omega arith in
    ap (λ (xs : List TaskReport). first_report i p ∷ xs)
    (first_from (i + 1) n ps d (omega arith)
    ∙ ap (λ (k : ℕ). map (λ m. first_report m.0 m.1) (enumerate_from (i + 1) (take n ps)) ++ first_report k (get_or ps n d) ∷ []) at)

-- one task more
pub first_reports-more : (n : ℕ) (ps : List Params) (d : Params) → n < length ps → first_reports (take (n + 1) ps) ≡ first_reports (take n ps) ++ first_report n (get_or ps n d) ∷ []
first_reports-more n ps d below =
    let next : n + 1 ≡ suc n = omega arith in
    let place : 0 + n ≡ n = omega arith in
    ap (λ (k : ℕ). first_reports (take k ps)) next ∙ first_from 0 n ps d below
    ∙ ap (λ (k : ℕ). first_reports (take n ps) ++ first_report k (get_or ps n d) ∷ []) place

-- ---- what is told

rows-of : (h : List Record) (i : ℕ) (ss : List SetTask) → map (λ x. x.row) (reports_from h i ss) ≡ map (λ n. row_of n.0 n.1 (own n.0 h)) (enumerate_from i ss)
rows-of h i [] = refl
rows-of h i (s ∷ ss) = ap (λ (rs : List Row). (task_report h i s).row ∷ rs) (rows-of h (i + 1) ss)

pub rows_at : (set : TaskSet) (t : ℕ) → map (λ x. x.row) (report_at set t).tasks ≡ rows set (legal set t)
unfolding report_at
rows_at set t = rows-of (legal set t) 0 set.tasks

pub idle_at : (set : TaskSet) (t : ℕ) → (report_at set t).idle ≡ idle_ticks (legal set t)
unfolding report_at
idle_at set t = refl

wide_rows-of : (t : ℕ) (h : List Record) (i : ℕ) (ss : List SetTask) → map (wide_row_at t) (reports_from h i ss) ≡ map (λ n. wide_row_of t h n.0 n.1) (enumerate_from i ss)
wide_rows-of t h i [] = refl
wide_rows-of t h i (s ∷ ss) = ap (λ (rs : List WideRow). wide_row_at t (task_report h i s) ∷ rs) (wide_rows-of t h (i + 1) ss)

pub wide_rows_at : (set : TaskSet) (t : ℕ) → map (wide_row_at (report_at set t).tick) (report_at set t).tasks ≡ wide_rows set t (legal set t)
unfolding report_at
wide_rows_at set t = wide_rows-of t (legal set t) 0 set.tasks
