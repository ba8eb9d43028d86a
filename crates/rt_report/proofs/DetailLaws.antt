-- The detailed list of jobs over an entry, and the jobs that aren't finished.
use Rattle.rt_report.proofs.Common.{◌≡◌, ℕ, zero, suc, ◌+◌, ◌-◌, ◌≤◌, Bool, true, false, cond, List, [], ◌∷◌, ◌++◌, length, map, take, replicate, slice_get, Option, Some, None, refl, sym, ap, subst, ◌∙◌, arith, add-zero, append_assoc, flat_map, enumerate_from, option_map, option_map_or, option_to_list, append-nil, take_all, flat_map-append, SetTask, TaskSet, AttemptOutcome, Attempt, Record, Idle, Busy, Entry, first_serving, own, serving_after, ends_job, jobs, record_at, legal, state_at, ticks_of, GoesOnBy, period-stays, length-legal, legal_next, OpenJob, open_job, gone_on, finished_at, FinishedJob, finished_job, finished_jobs, OpenSpan, span_from, TaskReport, task_report, report_at, spanned, detail_in, all_unfinished}
use Rattle.std.specs.Option.{option_and_then}
use Rattle.std.proofs.lemmas.List.{map-append, take-append-le}
use Rattle.rt_names.specs.TaskNames.{task_names}
use Rattle.rt_history.specs.declared.record.Entry.TheVariants as entries
use Rattle.rt_laws.specs.OpenJob.{open_of}
use Rattle.rt_report.specs.declared.detailed_job.JobDetail.{JobDetail}
use Rattle.rt_report.specs.declared.detailed_job.DetailedJob.{DetailedJob}
use Rattle.rt_report.specs.declared.detailed_job.UnfinishedJob.{UnfinishedJob}
use Rattle.rt_report.specs.JobDetails.{cut, longer, detail_of, detailed_job, detailed_in, detailed_by, detailed_jobs, unless_ended, unfinished_of}
use Rattle.rt_report.specs.DetailText.{unfinished_line, unfinished_text}
use Rattle.rt_report.specs.Working.Detailing.{detailing_one, detailing, detailing_by, unfinished_at}
use Rattle.rt_report.proofs.CutLaws.{open_cut, open_longer, span_longer, detail_is}
use Rattle.rt_report.proofs.JobLineLaws.{enumerate-append, new_job, new_jobs, finished-idle, finished-busy, report-of}

-- ---- the job that a record finishes

-- the open job of an own part with one record more, and its span
abbrev last_job : SetTask → List (ℕ × AttemptOutcome) → ℕ × AttemptOutcome → OpenJob
last_job s before e = open_of s (cut before).before ((cut before).piece ++ e ∷ [])

last-open : (s : SetTask) (before : List (ℕ × AttemptOutcome)) (e : ℕ × AttemptOutcome) → gone_on e (open_job s before) ≡ last_job s before e
last-open s before e = ap (gone_on e) (open_cut s before) ∙ open_longer s (cut before) e

last-span : (s : SetTask) (before : List (ℕ × AttemptOutcome)) (e : ℕ × AttemptOutcome)
    → spanned e.0 (open_job s before).ticks (span_from s (cut before)) ≡ span_from s (longer e (cut before))
last-span s before e =
    ap (λ (o : OpenJob). spanned e.0 o.ticks (span_from s (cut before))) (open_cut s before) ∙ span_longer s (cut before) e

-- with its details
abbrev detailed_with : ℕ → ℕ → ℕ → ℕ → OpenJob → OpenSpan → DetailedJob
detailed_with i period n u o p = record { job = finished_job i period n (finished_at u o); detail = detail_in o p; period = period }

detailing-one-is : (t i : ℕ) (h : List Record) (s : SetTask) (o : AttemptOutcome) → detailing_one t o (task_report h i s) ≡ detailed_job i s (own i h) (t, o)
detailing-one-is t i h s o =
    let before = own i h in
    let n = length (jobs s before) in
    let c = cut before in
    let last = last_job s before (t, o) in
    let p = spanned t (open_job s before).ticks (span_from s c) in
    ap (λ (period : ℕ). detailed_with i period n t (gone_on (t, o) (open_job s before)) p) (period-stays (first_serving s) before)
    ∙ ap (λ (j : OpenJob). detailed_with i s.period n t j p) (last-open s before (t, o))
    ∙ ap (detailed_with i s.period n t last) (last-span s before (t, o))
    ∙ ap (λ (d : JobDetail). record { job = finished_job i s.period n (finished_at t last); detail = d; period = s.period }) (detail_is s c.before (c.piece ++ (t, o) ∷ []))

detailing-is : (t i : ℕ) (h : List Record) (s : SetTask) (o : AttemptOutcome)
    → option_to_list (detailing t o (task_report h i s)) ≡ detailed_in i s (own i h) (t, o)
detailing-is t i h s o =
    elim (ends_job o) as (λ b. option_to_list (cond b (Some (detailing_one t o (task_report h i s))) None) ≡ cond b (detailed_job i s (own i h) (t, o) ∷ []) []) [
      | true ↦ ap (λ (j : DetailedJob). j ∷ []) (detailing-one-is t i h s o)
      | false ↦ refl
    ]

-- ---- a history, one record more

-- what a record at tick t of an attempt's task finishes, if the set has it
abbrev pub new_details : TaskSet → ℕ → List Record → Attempt → List DetailedJob
new_details set t h a = option_map_or (λ s. detailed_in a.task s (own a.task h) (t, a.outcome)) (slice_get set.tasks a.task) []

-- earlier records finish what they finished
same-below : (set : TaskSet) (u : ℕ) (h more part : List Record) → u + length part ≤ length h
    → flat_map (detailed_by set (h ++ more)) (enumerate_from u part) ≡ flat_map (detailed_by set h) (enumerate_from u part)
same-below set u h more [] within = refl
same-below set u h more (Idle ∷ part) within = same-below set (u + 1) h more part (omega (arith, within))
same-below set u h more (Busy a ∷ part) within =
    let before : take u (h ++ more) ≡ take u h = take-append-le u h more (omega (arith, within)) in
    ap (λ (g : List Record). new_details set u g a ++ flat_map (detailed_by set (h ++ more)) (enumerate_from (u + 1) part)) before
    ∙ ap (λ (xs : List DetailedJob). new_details set u (take u h) a ++ xs) (same-below set (u + 1) h more part (omega (arith, within)))

details-append : (set : TaskSet) (t : ℕ) (h more : List Record) → length h ≡ t
    → detailed_jobs set (h ++ more) ≡ detailed_jobs set h ++ flat_map (detailed_by set (h ++ more)) (enumerate_from t more)
details-append set t h more len =
    let by = detailed_by set (h ++ more) in
    let at : 0 + length h ≡ t = omega (arith, len) in
    ap (flat_map by) (enumerate-append 0 h more ∙ ap (λ (u : ℕ). enumerate_from 0 h ++ enumerate_from u more) at)
    ∙ flat_map-append by (enumerate_from 0 h) (enumerate_from t more)
    ∙ ap (λ (xs : List DetailedJob). xs ++ flat_map by (enumerate_from t more)) (same-below set 0 h more h (omega arith))

idle-none : (set : TaskSet) (g : List Record) (u n : ℕ) → flat_map (detailed_by set g) (enumerate_from u (replicate n Idle)) ≡ []
idle-none set g u zero = refl
idle-none set g u (suc n) = idle-none set g (u + 1) n

details-idle : (set : TaskSet) (t n : ℕ) (h : List Record) → length h ≡ t → detailed_jobs set (h ++ replicate n Idle) ≡ detailed_jobs set h
details-idle set t n h len =
    details-append set t h (replicate n Idle) len
    ∙ ap (λ (xs : List DetailedJob). detailed_jobs set h ++ xs) (idle-none set (h ++ replicate n Idle) t n)
    ∙ append-nil (detailed_jobs set h)

pub details-busy : (set : TaskSet) (t : ℕ) (h : List Record) (a : Attempt) → length h ≡ t
    → detailed_jobs set (h ++ Busy a ∷ []) ≡ detailed_jobs set h ++ new_details set t h a
details-busy set t h a len =
    let g = h ++ Busy a ∷ [] in
    let before : take t g ≡ h = take-append-le t h (Busy a ∷ []) (omega (arith, len)) ∙ take_all t h (omega (arith, len)) in
    details-append set t h (Busy a ∷ []) len
    ∙ ap (λ (xs : List DetailedJob). detailed_jobs set h ++ xs) (append-nil (detailed_by set g (t, Busy a)) ∙ ap (λ (k : List Record). new_details set t k a) before)

-- ---- what a report finds

found-new : (t i : ℕ) (h : List Record) (o : AttemptOutcome) (found : Option SetTask)
    → option_to_list (option_and_then (detailing t o) (option_map (task_report h i) found)) ≡ option_map_or (λ s. detailed_in i s (own i h) (t, o)) found []
found-new t i h o None = refl
found-new t i h o (Some s) = detailing-is t i h s o

detailing-new : (set : TaskSet) (t : ℕ) (h : List Record) (a : Attempt)
    → option_to_list (option_and_then (detailing t a.outcome) (slice_get (map (λ n. task_report h n.0 n.1) (enumerate_from 0 set.tasks)) a.task)) ≡ new_details set t h a
detailing-new set t h a =
    let place : 0 + a.task ≡ a.task = omega arith in
    ap (λ (x : Option TaskReport). option_to_list (option_and_then (detailing t a.outcome) x))
    (report-of h 0 a.task set.tasks ∙ ap (λ (m : ℕ). option_map (task_report h m) (slice_get set.tasks a.task)) place)
    ∙ found-new t a.task h a.outcome (slice_get set.tasks a.task)

-- an entry more
pub detailed_next : (set : TaskSet) (t : ℕ) (e : Entry) → GoesOnBy set t e
    → detailed_jobs set (legal set (t + ticks_of e)) ≡ detailed_jobs set (legal set t) ++ option_to_list (detailing_by e (report_at set t))
unfolding report_at
detailed_next set t (entries.Idle u n) goes =
    ap (detailed_jobs set) goes ∙ details-idle set t n (legal set t) (length-legal set t) ∙ sym (append-nil (detailed_jobs set (legal set t)))
detailed_next set t (entries.Busy u a) goes =
    ap (detailed_jobs set) goes ∙ details-busy set t (legal set t) a (length-legal set t)
    ∙ ap (λ (xs : List DetailedJob). detailed_jobs set (legal set t) ++ xs) (sym (detailing-new set t (legal set t) a))

-- ---- the beginnings of a history

details-more : (set : TaskSet) (t : ℕ) (h : List Record) (r : Record) → length h ≡ t → (more : List DetailedJob) × (detailed_jobs set (h ++ r ∷ []) ≡ detailed_jobs set h ++ more)
details-more set t h Idle len = ([], details-idle set t 1 h len ∙ sym (append-nil (detailed_jobs set h)))
details-more set t h (Busy a) len = (new_details set t h a, details-busy set t h a len)

details-from : (set : TaskSet) (t k : ℕ) → (rest : List DetailedJob) × (detailed_jobs set (legal set (t + k)) ≡ detailed_jobs set (legal set t) ++ rest)
details-from set t zero = ([], rw add-zero (sym (append-nil (detailed_jobs set (legal set t)))))
details-from set t (suc k) =
    let before = details-from set t k in
    let more = details-more set (t + k) (legal set (t + k)) (record_at (state_at set (t + k))) (length-legal set (t + k)) in
    let at : t + k + 1 ≡ t + suc k = omega arith in (
      before.0 ++ more.0,
      subst (λ (u : ℕ). detailed_jobs set (legal set u) ≡ detailed_jobs set (legal set t) ++ (before.0 ++ more.0)) at
          (ap (detailed_jobs set) (legal_next set (t + k)) ∙ more.1 ∙ ap (λ (xs : List DetailedJob). xs ++ more.0) before.1
          ∙ append_assoc (detailed_jobs set (legal set t)) before.0 more.0),
    )

-- the finished jobs of a beginning come first
pub detailed_begin : (set : TaskSet) (t n : ℕ) → t ≤ n → (rest : List DetailedJob) × (detailed_jobs set (legal set n) ≡ detailed_jobs set (legal set t) ++ rest)
detailed_begin set t n le =
    let from = details-from set t (n - t) in
    let at : t + (n - t) ≡ n = omega (arith, le) in
    (from.0, subst (λ (u : ℕ). detailed_jobs set (legal set u) ≡ detailed_jobs set (legal set t) ++ from.0) at from.1)

-- ---- without the details these are the finished jobs

job-same : (t i : ℕ) (s : SetTask) (before : List (ℕ × AttemptOutcome)) (o : AttemptOutcome)
    → map (λ (d : DetailedJob). d.job) (detailed_in i s before (t, o)) ≡ new_jobs i s before t o
job-same t i s before o =
    let n = length (jobs s before) in
    elim (ends_job o) as (λ b. map (λ (d : DetailedJob). d.job) (cond b (detailed_job i s before (t, o) ∷ []) []) ≡ option_to_list (cond b (Some (new_job i s before t o)) None)) [
      | true ↦ ap (λ (j : OpenJob). finished_job i s.period n (finished_at t j) ∷ []) (sym (last-open s before (t, o)))
      | false ↦ refl
    ]

found-same : (t i : ℕ) (h : List Record) (o : AttemptOutcome) (found : Option SetTask)
    → map (λ (d : DetailedJob). d.job) (option_map_or (λ s. detailed_in i s (own i h) (t, o)) found []) ≡ option_map_or (λ s. new_jobs i s (own i h) t o) found []
found-same t i h o None = refl
found-same t i h o (Some s) = job-same t i s (own i h) o

-- of a history for which it holds, also with one record more
same-more : (set : TaskSet) (t : ℕ) (h : List Record) (r : Record) → length h ≡ t → map (λ (d : DetailedJob). d.job) (detailed_jobs set h) ≡ finished_jobs set h
    → map (λ (d : DetailedJob). d.job) (detailed_jobs set (h ++ r ∷ [])) ≡ finished_jobs set (h ++ r ∷ [])
same-more set t h Idle len same =
    ap (map (λ (d : DetailedJob). d.job)) (details-idle set t 1 h len) ∙ same ∙ sym (finished-idle set t 1 h len)
same-more set t h (Busy a) len same =
    let new = new_details set t h a in
    ap (map (λ (d : DetailedJob). d.job)) (details-busy set t h a len) ∙ map-append (λ (d : DetailedJob). d.job) (detailed_jobs set h) new
    ∙ ap (λ (js : List FinishedJob). js ++ map (λ (d : DetailedJob). d.job) new) same
    ∙ ap (λ (js : List FinishedJob). finished_jobs set h ++ js) (found-same t a.task h a.outcome (slice_get set.tasks a.task))
    ∙ sym (finished-busy set t h a len)

pub details_same : (set : TaskSet) (t : ℕ) → map (λ (d : DetailedJob). d.job) (detailed_jobs set (legal set t)) ≡ finished_jobs set (legal set t)
unfolding legal
details_same set zero = refl
details_same set (suc t) =
    let next = legal_next set t in
    let at : t + 1 ≡ suc t = omega arith in
    subst (λ (u : ℕ). map (λ (d : DetailedJob). d.job) (detailed_jobs set (legal set u)) ≡ finished_jobs set (legal set u)) at
    (ap (λ (h : List Record). map (λ (d : DetailedJob). d.job) (detailed_jobs set h)) next
    ∙ same-more set t (legal set t) (record_at (state_at set t)) (length-legal set t) (details_same set t)
    ∙ sym (ap (finished_jobs set) next))

-- ---- jobs that aren't finished

abbrev unfinished_with : ℕ → ℕ → OpenJob → JobDetail → ℕ → UnfinishedJob
unfinished_with i n o d period = record {
  task = i;
  number = n;
  release = o.release.tick;
  ticks = o.ticks;
  fresh = o.fresh;
  calm = o.calm;
  detail = d;
  period = period;
}

unfinished-is : (i : ℕ) (h : List Record) (s : SetTask) → unfinished_at (task_report h i s) ≡ unfinished_of i s (own i h)
unfinished-is i h s =
    let before = own i h in
    let c = cut before in
    let o = open_job s before in
    let after = serving_after (first_serving s) before in
    ap (λ (d : JobDetail). unless_ended after.mode (unfinished_with i (length (jobs s before)) o d after.account.p))
    (ap (λ (j : OpenJob). detail_in j (span_from s c)) (open_cut s before) ∙ detail_is s c.before c.piece)
    ∙ ap (λ (period : ℕ). unless_ended after.mode (unfinished_with i (length (jobs s before)) o (detail_of s c) period)) (period-stays (first_serving s) before)

unfinished-all : (h : List Record) (i : ℕ) (ss : List SetTask)
    → flat_map unfinished_at (map (λ n. task_report h n.0 n.1) (enumerate_from i ss)) ≡ flat_map (λ n. unfinished_of n.0 n.1 (own n.0 h)) (enumerate_from i ss)
unfinished-all h i [] = refl
unfinished-all h i (s ∷ ss) =
    ap (λ (xs : List UnfinishedJob). xs ++ flat_map unfinished_at (map (λ n. task_report h n.0 n.1) (enumerate_from (i + 1) ss))) (unfinished-is i h s)
    ∙ ap (λ (xs : List UnfinishedJob). unfinished_of i s (own i h) ++ xs) (unfinished-all h (i + 1) ss)

pub unfinished_text_at : (details : Bool) (set : TaskSet) (t : ℕ)
    → flat_map (unfinished_line details (task_names set)) (all_unfinished (report_at set t).tasks) ≡ unfinished_text details set (legal set t)
unfolding report_at
unfinished_text_at details set t = ap (flat_map (unfinished_line details (task_names set))) (unfinished-all (legal set t) 0 set.tasks)
