-- The finished jobs of a history that goes on: those of before, and the one that the coming entry finishes.
use Rattle.rt_report.proofs.Common.{append_assoc, ◌≡◌, ℕ, zero, suc, ◌+◌, ◌-◌, ◌<◌, ◌≤◌, ◌==◌, Bool, true, false, cond, List, [], ◌∷◌, ◌++◌, length, map, replicate, All, slice_get, Option, Some, None, refl, sym, ap, subst, ◌∙◌, arith, add-zero, flat_map, enumerate_from, option_map, option_map_or, option_to_list, nat_tests, append-nil, flat_map-append, SetTask, TaskSet, AttemptOutcome, Attempt, Record, Idle, Busy, Entry, first_serving, own, Job, ends_job, jobs, record_at, legal, state_at, ticks_of, GoesOnBy, period-stays, length-legal, legal_next, open_job, gone_on, finished_at, FinishedJob, finished_job, finished_jobs, TaskReport, task_report, report_at}
use Rattle.std.specs.List.{filter}
use Rattle.std.specs.Option.{option_and_then}
use Rattle.std.proofs.lemmas.List.Elements.{All-nil, All-cons, All-head, All-tail, filter-append}
use Rattle.rt_history.specs.declared.record.Entry.TheVariants as entries
use Rattle.rt_history.specs.OwnPart.{own_from}
use Rattle.rt_history.specs.Job.{job_of, jobs_after}
use Rattle.rt_history.proofs.OwnPartLaws.{own-idle, own-other, own-own}
use Rattle.rt_laws.proofs.WorkLaws.{jobs_next}
use Rattle.rt_report.specs.JobLines.{jobs_of, finished_by}
use Rattle.rt_report.specs.Working.Finishing.{finishing, finishing_by}

-- ---- the jobs of a task

-- of which the first is job n
abbrev pub numbered : ℕ → ℕ → ℕ → List Job → List FinishedJob
numbered i period n js = map (λ m. finished_job i period m.0 m.1) (enumerate_from n js)

numbered-more : (i period n : ℕ) (js : List Job) (j : Job) → numbered i period n (js ++ j ∷ []) ≡ numbered i period n js ++ finished_job i period (n + length js) j ∷ []
numbered-more i period n [] j = rw add-zero refl
numbered-more i period n (k ∷ js) j =
    let at : (n + 1) + length js ≡ n + suc (length js) = omega arith in
    ap (λ (xs : List FinishedJob). finished_job i period n k ∷ xs)
    (numbered-more i period (n + 1) js j ∙ ap (λ (m : ℕ). numbered i period (n + 1) js ++ finished_job i period m j ∷ []) at)

-- the job that an own record of tick t finishes
abbrev pub new_job : ℕ → SetTask → List (ℕ × AttemptOutcome) → ℕ → AttemptOutcome → FinishedJob
new_job i s before t o = finished_job i s.period (length (jobs s before)) (finished_at t (gone_on (t, o) (open_job s before)))

abbrev pub new_jobs : ℕ → SetTask → List (ℕ × AttemptOutcome) → ℕ → AttemptOutcome → List FinishedJob
new_jobs i s before t o = option_to_list (cond (ends_job o) (Some (new_job i s before t o)) None)

jobs-more : (i : ℕ) (s : SetTask) (before : List (ℕ × AttemptOutcome)) (t : ℕ) (o : AttemptOutcome)
    → numbered i s.period 0 (jobs s (before ++ (t, o) ∷ [])) ≡ numbered i s.period 0 (jobs s before) ++ new_jobs i s before t o
jobs-more i s before t o =
    let js = jobs s before in
    let j = finished_at t (gone_on (t, o) (open_job s before)) in
    let place : 0 + length js ≡ length js = omega arith in
    ap (numbered i s.period 0) (jobs_next s before (t, o))
    ∙ elim (ends_job o) as (λ b. numbered i s.period 0 (cond b (js ++ j ∷ []) js)
    ≡ numbered i s.period 0 js ++ option_to_list (cond b (Some (finished_job i s.period (length js) j)) None)) [
      | true ↦ numbered-more i s.period 0 js j ∙ ap (λ (m : ℕ). numbered i s.period 0 js ++ finished_job i s.period m j ∷ []) place
      | false ↦ sym (append-nil (numbered i s.period 0 js))
    ]

-- ---- by what records of a history add to its own part

pub jobs_of-idle : (t i n : ℕ) (s : SetTask) (h : List Record) → length h ≡ t → jobs_of i s (h ++ replicate n Idle) ≡ jobs_of i s h
jobs_of-idle t i n s h len = ap (λ (es : List (ℕ × AttemptOutcome)). numbered i s.period 0 (jobs s es)) (own-idle t i n h len)

pub jobs_of-other : (t i : ℕ) (s : SetTask) (h : List Record) (a : Attempt) → length h ≡ t → (a.task == i) ≡ false → jobs_of i s (h ++ Busy a ∷ []) ≡ jobs_of i s h
jobs_of-other t i s h a len differs = ap (λ (es : List (ℕ × AttemptOutcome)). numbered i s.period 0 (jobs s es)) (own-other t i h a len differs)

pub jobs_of-own : (t i : ℕ) (s : SetTask) (h : List Record) (a : Attempt) → length h ≡ t → (a.task == i) ≡ true
    → jobs_of i s (h ++ Busy a ∷ []) ≡ jobs_of i s h ++ new_jobs i s (own i h) t a.outcome
jobs_of-own t i s h a len hits =
    ap (λ (es : List (ℕ × AttemptOutcome)). numbered i s.period 0 (jobs s es)) (own-own t i h a len hits) ∙ jobs-more i s (own i h) t a.outcome

-- ---- when they finish

own-below : (t u i : ℕ) (h : List Record) → u + length h ≤ t → All (λ (e : ℕ × AttemptOutcome). e.0 < t) (own_from u i h)
own-below t u i [] within = All-nil (λ (e : ℕ × AttemptOutcome). e.0 < t)
own-below t u i (Idle ∷ h) within = own-below t (u + 1) i h (omega arith)
own-below t u i (Busy a ∷ h) within =
    let early : u < t = omega arith in
    let later = own-below t (u + 1) i h (omega arith) in
    elim (a.task == i) as (λ b. All (λ (e : ℕ × AttemptOutcome). e.0 < t) (cond b ((u, a.outcome) ∷ own_from (u + 1) i h) (own_from (u + 1) i h))) [
      | true ↦ All-cons (λ (e : ℕ × AttemptOutcome). e.0 < t) (u, a.outcome) (own_from (u + 1) i h) early later
      | false ↦ later
    ]

jobs-below : (t : ℕ) (s : SetTask) (before piece es : List (ℕ × AttemptOutcome)) → All (λ (e : ℕ × AttemptOutcome). e.0 < t) es
    → All (λ (j : Job). j.finish < t) (jobs_after s before piece es)
jobs-below t s before piece [] early = All-nil (λ (j : Job). j.finish < t)
jobs-below t s before piece (e ∷ es) early =
    let first : e.0 < t = All-head (λ (x : ℕ × AttemptOutcome). x.0 < t) e es early in
    let later = All-tail (λ (x : ℕ × AttemptOutcome). x.0 < t) e es early in
    let done = before ++ (piece ++ e ∷ []) in
    elim (ends_job e.1) as (λ b. All (λ (j : Job). j.finish < t) (cond b (job_of s before (piece ++ e ∷ []) e.0 ∷ jobs_after s done [] es) (jobs_after s before (piece ++ e ∷ []) es))) [
      | true ↦ All-cons (λ (j : Job). j.finish < t) (job_of s before (piece ++ e ∷ []) e.0) (jobs_after s done [] es) first (jobs-below t s done [] es later)
      | false ↦ jobs-below t s before (piece ++ e ∷ []) es later
    ]

-- whether a job finishes at tick u
abbrev finishes : ℕ → FinishedJob → Bool
finishes u j = j.finish == u

numbered-past : (i period n u : ℕ) (js : List Job) → All (λ (j : Job). j.finish < u) js → filter (finishes u) (numbered i period n js) ≡ []
numbered-past i period n u [] early = refl
numbered-past i period n u (j ∷ js) early =
    let first : j.finish < u = All-head (λ (x : Job). x.finish < u) j js early in
    let differs : (j.finish == u) ≡ false = grind (arith, nat_tests) in
    rw differs (numbered-past i period (n + 1) u js (All-tail (λ (x : Job). x.finish < u) j js early))

-- no job of a history of u ticks finishes at tick u
past-none : (u i : ℕ) (s : SetTask) (h : List Record) → length h ≡ u → filter (finishes u) (jobs_of i s h) ≡ []
past-none u i s h len = numbered-past i s.period 0 u (jobs s (own i h)) (jobs-below u s [] [] (own i h) (own-below u 0 i h (omega arith)))

-- of one job or none the test keeps all or nothing
pub filter-new : (p : FinishedJob → Bool) (b c : Bool) (j : FinishedJob) → p j ≡ c
    → filter p (option_to_list (cond b (Some j) None)) ≡ cond c (option_to_list (cond b (Some j) None)) []
filter-new p true c j is = rw is refl
filter-new p false true j is = refl
filter-new p false false j is = refl

-- ---- what each record finishes, one record more

-- a record of an earlier tick finishes the same
earlier-busy : (t i u : ℕ) (s : SetTask) (h : List Record) (a : Attempt) → length h ≡ t → u < t
    → filter (finishes u) (jobs_of i s (h ++ Busy a ∷ [])) ≡ filter (finishes u) (jobs_of i s h)
earlier-busy t i u s h a len early =
    let past : (t == u) ≡ false = grind (arith, nat_tests) in
    let new = new_jobs i s (own i h) t a.outcome in
    elim (a.task == i) as (λ b. (a.task == i) ≡ b → filter (finishes u) (jobs_of i s (h ++ Busy a ∷ [])) ≡ filter (finishes u) (jobs_of i s h)) [
      | true ↦ λ hits.
          ap (filter (finishes u)) (jobs_of-own t i s h a len hits) ∙ filter-append (finishes u) (jobs_of i s h) new
          ∙ ap (λ (xs : List FinishedJob). filter (finishes u) (jobs_of i s h) ++ xs)
          (filter-new (finishes u) (ends_job a.outcome) false (new_job i s (own i h) t a.outcome) past)
          ∙ append-nil (filter (finishes u) (jobs_of i s h))
      | false ↦ λ differs. ap (filter (finishes u)) (jobs_of-other t i s h a len differs)
    ] refl

-- the record itself finishes what is new
now-busy : (t : ℕ) (s : SetTask) (h : List Record) (a : Attempt) → length h ≡ t
    → filter (finishes t) (jobs_of a.task s (h ++ Busy a ∷ [])) ≡ new_jobs a.task s (own a.task h) t a.outcome
now-busy t s h a len =
    let hits : (a.task == a.task) ≡ true = grind (arith, nat_tests) in
    let now : (t == t) ≡ true = grind (arith, nat_tests) in
    let new = new_jobs a.task s (own a.task h) t a.outcome in
    ap (filter (finishes t)) (jobs_of-own t a.task s h a len hits) ∙ filter-append (finishes t) (jobs_of a.task s h) new
    ∙ ap (λ (xs : List FinishedJob). xs ++ filter (finishes t) new) (past-none t a.task s h len)
    ∙ filter-new (finishes t) (ends_job a.outcome) true (new_job a.task s (own a.task h) t a.outcome) now

-- ---- a history

pub enumerate-append : {X : Type 0} (u : ℕ) (xs ys : List X) → enumerate_from u (xs ++ ys) ≡ enumerate_from u xs ++ enumerate_from (u + length xs) ys
enumerate-append u [] ys = rw add-zero refl
enumerate-append {X} u (x ∷ xs) ys =
    let at : (u + 1) + length xs ≡ u + suc (length xs) = omega arith in
    ap (λ (zs : List (ℕ × X)). (u, x) ∷ zs)
    (enumerate-append (u + 1) xs ys ∙ ap (λ (v : ℕ). enumerate_from (u + 1) xs ++ enumerate_from v ys) at)

by-same : (f g : SetTask → List FinishedJob) → ((s : SetTask) → f s ≡ g s) → (found : Option SetTask) → option_map_or f found [] ≡ option_map_or g found []
by-same f g same None = refl
by-same f g same (Some s) = same s

-- two histories whose jobs are the same at each tick before t
abbrev AreSameBelow : ℕ → List Record → List Record → Type 0
AreSameBelow t g h = (i u : ℕ) (s : SetTask) → u < t → filter (finishes u) (jobs_of i s g) ≡ filter (finishes u) (jobs_of i s h)

told-same : (set : TaskSet) (t u : ℕ) (g h part : List Record) → u + length part ≤ t → AreSameBelow t g h
    → flat_map (finished_by set g) (enumerate_from u part) ≡ flat_map (finished_by set h) (enumerate_from u part)
told-same set t u g h [] within same = refl
told-same set t u g h (Idle ∷ part) within same = told-same set t (u + 1) g h part (omega arith) same
told-same set t u g h (Busy a ∷ part) within same =
    let early : u < t = omega arith in
    let f = λ (s : SetTask). filter (finishes u) (jobs_of a.task s g) in
    let k = λ (s : SetTask). filter (finishes u) (jobs_of a.task s h) in
    let first : finished_by set g (u, Busy a) ≡ finished_by set h (u, Busy a) = by-same f k (λ s. same a.task u s early) (slice_get set.tasks a.task) in
    let later = told-same set t (u + 1) g h part (omega arith) same in
    ap (λ (xs : List FinishedJob). xs ++ flat_map (finished_by set g) (enumerate_from (u + 1) part)) first
    ∙ ap (λ (xs : List FinishedJob). finished_by set h (u, Busy a) ++ xs) later

-- more records, after which the jobs of before are the same
finished-append : (set : TaskSet) (t : ℕ) (h more : List Record) → length h ≡ t → AreSameBelow t (h ++ more) h
    → finished_jobs set (h ++ more) ≡ finished_jobs set h ++ flat_map (finished_by set (h ++ more)) (enumerate_from t more)
finished-append set t h more len same =
    let by = finished_by set (h ++ more) in
    let at : 0 + length h ≡ t = omega arith in
    ap (flat_map by) (enumerate-append 0 h more ∙ ap (λ (u : ℕ). enumerate_from 0 h ++ enumerate_from u more) at)
    ∙ flat_map-append by (enumerate_from 0 h) (enumerate_from t more)
    ∙ ap (λ (xs : List FinishedJob). xs ++ flat_map by (enumerate_from t more)) (told-same set t 0 (h ++ more) h h (omega arith) same)

idle-none : (set : TaskSet) (g : List Record) (u n : ℕ) → flat_map (finished_by set g) (enumerate_from u (replicate n Idle)) ≡ []
idle-none set g u zero = refl
idle-none set g u (suc n) = idle-none set g (u + 1) n

pub finished-idle : (set : TaskSet) (t n : ℕ) (h : List Record) → length h ≡ t → finished_jobs set (h ++ replicate n Idle) ≡ finished_jobs set h
finished-idle set t n h len =
    finished-append set t h (replicate n Idle) len (λ i u s early. ap (filter (finishes u)) (jobs_of-idle t i n s h len))
    ∙ ap (λ (xs : List FinishedJob). finished_jobs set h ++ xs) (idle-none set (h ++ replicate n Idle) t n)
    ∙ append-nil (finished_jobs set h)

-- the new jobs of an attempt's task, if the set has it
abbrev pub new_by : TaskSet → ℕ → List Record → Attempt → List FinishedJob
new_by set t h a = option_map_or (λ s. new_jobs a.task s (own a.task h) t a.outcome) (slice_get set.tasks a.task) []

pub finished-busy : (set : TaskSet) (t : ℕ) (h : List Record) (a : Attempt) → length h ≡ t
    → finished_jobs set (h ++ Busy a ∷ []) ≡ finished_jobs set h ++ new_by set t h a
finished-busy set t h a len =
    let g = h ++ Busy a ∷ [] in
    let f = λ (s : SetTask). filter (finishes t) (jobs_of a.task s g) in
    let k = λ (s : SetTask). new_jobs a.task s (own a.task h) t a.outcome in
    finished-append set t h (Busy a ∷ []) len (λ i u s early. earlier-busy t i u s h a len early)
    ∙ ap (λ (xs : List FinishedJob). finished_jobs set h ++ xs)
    (append-nil (finished_by set g (t, Busy a)) ∙ by-same f k (λ s. now-busy t s h a len) (slice_get set.tasks a.task))

-- ---- what a report finds

finishing-is : (t i : ℕ) (h : List Record) (s : SetTask) (o : AttemptOutcome)
    → finishing t o (task_report h i s) ≡ cond (ends_job o) (Some (new_job i s (own i h) t o)) None
finishing-is t i h s o =
    ap (λ (p : ℕ). cond (ends_job o) (Some (finished_job i p (length (jobs s (own i h))) (finished_at t (gone_on (t, o) (open_job s (own i h)))))) None)
    (period-stays (first_serving s) (own i h))

pub report-of : (h : List Record) (i k : ℕ) (ss : List SetTask)
    → slice_get (map (λ n. task_report h n.0 n.1) (enumerate_from i ss)) k ≡ option_map (task_report h (i + k)) (slice_get ss k)
report-of h i k [] = refl
report-of h i zero (s ∷ ss) = rw add-zero refl
report-of h i (suc k) (s ∷ ss) =
    let at : (i + 1) + k ≡ i + suc k = omega arith in
    report-of h (i + 1) k ss ∙ ap (λ (m : ℕ). option_map (task_report h m) (slice_get ss k)) at

found-new : (t i : ℕ) (h : List Record) (o : AttemptOutcome) (found : Option SetTask)
    → option_to_list (option_and_then (finishing t o) (option_map (task_report h i) found)) ≡ option_map_or (λ s. new_jobs i s (own i h) t o) found []
found-new t i h o None = refl
found-new t i h o (Some s) = ap option_to_list (finishing-is t i h s o)

finishing-new : (set : TaskSet) (t : ℕ) (h : List Record) (a : Attempt)
    → option_to_list (option_and_then (finishing t a.outcome) (slice_get (map (λ n. task_report h n.0 n.1) (enumerate_from 0 set.tasks)) a.task)) ≡ new_by set t h a
finishing-new set t h a =
    let place : 0 + a.task ≡ a.task = omega arith in
    ap (λ (x : Option TaskReport). option_to_list (option_and_then (finishing t a.outcome) x))
    (report-of h 0 a.task set.tasks ∙ ap (λ (m : ℕ). option_map (task_report h m) (slice_get set.tasks a.task)) place)
    ∙ found-new t a.task h a.outcome (slice_get set.tasks a.task)

-- an entry more
pub finished_next : (set : TaskSet) (t : ℕ) (e : Entry) → GoesOnBy set t e
    → finished_jobs set (legal set (t + ticks_of e)) ≡ finished_jobs set (legal set t) ++ option_to_list (finishing_by e (report_at set t))
unfolding report_at
finished_next set t (entries.Idle u n) goes =
    ap (finished_jobs set) goes ∙ finished-idle set t n (legal set t) (length-legal set t) ∙ sym (append-nil (finished_jobs set (legal set t)))
finished_next set t (entries.Busy u a) goes =
    ap (finished_jobs set) goes ∙ finished-busy set t (legal set t) a (length-legal set t)
    ∙ ap (λ (xs : List FinishedJob). finished_jobs set (legal set t) ++ xs) (sym (finishing-new set t (legal set t) a))

-- ---- the beginnings of a history

finished-more : (set : TaskSet) (t : ℕ) (h : List Record) (r : Record) → length h ≡ t → (more : List FinishedJob) × (finished_jobs set (h ++ r ∷ []) ≡ finished_jobs set h ++ more)
finished-more set t h Idle len = ([], finished-idle set t 1 h len ∙ sym (append-nil (finished_jobs set h)))
finished-more set t h (Busy a) len = (new_by set t h a, finished-busy set t h a len)

finished-from : (set : TaskSet) (t k : ℕ) → (rest : List FinishedJob) × (finished_jobs set (legal set (t + k)) ≡ finished_jobs set (legal set t) ++ rest)
finished-from set t zero = ([], rw add-zero (sym (append-nil (finished_jobs set (legal set t)))))
finished-from set t (suc k) =
    let before = finished-from set t k in
    let more = finished-more set (t + k) (legal set (t + k)) (record_at (state_at set (t + k))) (length-legal set (t + k)) in
    let at : t + k + 1 ≡ t + suc k = omega arith in (
      before.0 ++ more.0,
      subst (λ (u : ℕ). finished_jobs set (legal set u) ≡ finished_jobs set (legal set t) ++ (before.0 ++ more.0)) at
          (ap (finished_jobs set) (legal_next set (t + k)) ∙ more.1 ∙ ap (λ (xs : List FinishedJob). xs ++ more.0) before.1
          ∙ append_assoc (finished_jobs set (legal set t)) before.0 more.0),
    )

-- the finished jobs of a beginning come first
pub finished_begin : (set : TaskSet) (t n : ℕ) → t ≤ n → (rest : List FinishedJob) × (finished_jobs set (legal set n) ≡ finished_jobs set (legal set t) ++ rest)
finished_begin set t n le =
    let from = finished-from set t (n - t) in
    let at : t + (n - t) ≡ n = omega arith in
    (from.0, subst (λ (u : ℕ). finished_jobs set (legal set u) ≡ finished_jobs set (legal set t) ++ from.0) at from.1)
