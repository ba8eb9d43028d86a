-- What is kept of a task, one record more: it follows from its own part.
use Rattle.rt_report.proofs.Common.{◌≡◌, ℕ, ◌+◌, Bool, true, false, cond, List, [], ◌∷◌, ◌++◌, length, map, count_by, Some, refl, sym, ap, ◌∙◌, Account, SetTask, AttemptOutcome, Serving, first_serving, due, after, serving_after, Job, response, is_hard, is_late, ends_job, release_by, period-stays, open_job, gone_on, finished_at, row_of, OpenSpan, span_from, TaskReport, with_tick, spanned, closed, tallied}
use Rattle.std.proofs.Common.{min, max, length-append}
use Rattle.std.specs.List.{reduce}
use Rattle.std.proofs.lemmas.List.{map-append}
use Rattle.std.proofs.lemmas.List.Sums.{fold-append, sum_by_push}
use Rattle.rt_history.specs.Job.{account_after}
use Rattle.rt_history.specs.Working.Bounded.{IsTakeable}
use Rattle.rt_history.proofs.ServingLaws.{step-period, serving_after-append}
use Rattle.rt_laws.specs.Work.{begun_at, Work, first_work, worked, work_after}
use Rattle.rt_laws.proofs.WorkLaws.{work_after-append, work_is}
use Rattle.rt_report.specs.Rows.{row_with}
use Rattle.rt_report.specs.WideRows.{Moment, moments, wakes_afresh, wakes_kept, postpones, is_yield, is_grant, is_refusal, is_over, counts_with, counts_of}
use Rattle.rt_report.specs.JobDetails.{cut}
use Rattle.rt_report.specs.Working.Tallied.{picked, with_job, with_finished, with_record, span_at, left}
use Rattle.rt_history.proofs.TakenLaws.{taken-same}
use Rattle.rt_report.proofs.CutLaws.{span_more}

-- ---- rows

reduce-push : (f : ℕ → ℕ → ℕ) (xs : List ℕ) (y : ℕ) → reduce f (xs ++ y ∷ []) ≡ Some (picked f (reduce f xs) y)
reduce-push f [] y = refl
reduce-push f (x ∷ xs) y = ap Some (fold-append f x xs (y ∷ []))

picked_more : (f : ℕ → ℕ → ℕ) (js : List Job) (j : Job) → reduce f (map response (js ++ j ∷ [])) ≡ Some (picked f (reduce f (map response js)) (response j))
picked_more f js j = ap (reduce f) (map-append response js (j ∷ [])) ∙ reduce-push f (map response js) (response j)

count_more : {X : Type 0} (p : X → Bool) (xs : List X) (x : X) → count_by p (xs ++ x ∷ []) ≡ count_by p xs + cond (p x) 1 0
count_more p xs x = sum_by_push (λ y. cond (p y) 1 0) xs x

-- one job more
row-job : (i : ℕ) (s : SetTask) (n : ℕ) (js : List Job) (j : Job)
    → row_with i s n (js ++ j ∷ []) ≡ with_job (response j) (is_hard j) (is_late s.period j) (row_with i s n js)
row-job i s n js j =
    let count : length (js ++ j ∷ []) ≡ length js + 1 = length-append js (j ∷ []) in
    rw (count, picked_more min js j, picked_more max js j, count_more is_hard js j, count_more (is_late s.period) js j) refl

-- ---- counts

-- the record, and how the task stood before it
abbrev pub moment : ℕ × AttemptOutcome → Serving → Moment
moment e s = record { tick = e.0; outcome = e.1; before = s }

pub moments-more : (s : Serving) (es : List (ℕ × AttemptOutcome)) (e : ℕ × AttemptOutcome) → moments s (es ++ e ∷ []) ≡ moments s es ++ moment e (serving_after s es) ∷ []
moments-more s [] e = refl
moments-more s (f ∷ es) e = ap (λ (ms : List Moment). moment f s ∷ ms) (moments-more (after f.0 f.1 (due f.0 s).account) es e)

-- one record more
counts-record : (s : SetTask) (ms : List Moment) (m : Moment) (js : List Job)
    → counts_with s (ms ++ m ∷ []) js ≡ with_record m.tick m.outcome m.before (counts_with s ms js)
counts-record s ms m js =
    let fresh = count_more (λ (x : Moment). wakes_afresh x.tick x.before) ms m in
    let kept = count_more (λ (x : Moment). wakes_kept x.tick x.before) ms m in
    let moved = count_more (λ (x : Moment). postpones x.outcome (due x.tick x.before).account) ms m in
    let yields = count_more (λ (x : Moment). is_yield x.outcome) ms m in
    let granted = count_more (λ (x : Moment). is_grant x.outcome) ms m in
    let refused = count_more (λ (x : Moment). is_refusal x.outcome) ms m in
    rw (fresh, kept, moved, yields, granted, refused) refl

-- one job more
most_more : (js : List Job) (j : Job) → reduce max (map (λ (x : Job). x.ticks) (js ++ j ∷ [])) ≡ Some (picked max (reduce max (map (λ (x : Job). x.ticks) js)) j.ticks)
most_more js j = ap (reduce max) (map-append (λ (x : Job). x.ticks) js (j ∷ [])) ∙ reduce-push max (map (λ (x : Job). x.ticks) js) j.ticks

counts-job : (s : SetTask) (ms : List Moment) (js : List Job) (j : Job)
    → counts_with s ms (js ++ j ∷ []) ≡ with_finished j.ticks (response j) (is_over s.period j) (counts_with s ms js)
counts-job s ms js j = rw (most_more js j, count_more (is_over s.period) js j, sum_by_push response js j) refl

-- ---- one record more

-- what is kept of task i, from what is kept of its jobs, and its records with how it stood before them
abbrev report_of : ℕ → SetTask → ℕ → List Moment → Work → OpenSpan → TaskReport
report_of i s n ms w p = record {
  serving = w.serving;
  open_job = w.open_job;
  span = p;
  row = row_with i s n w.jobs;
  counts = counts_with s ms w.jobs;
  start = s.start;
}

-- from its own part
abbrev pub report_from : ℕ → SetTask → List (ℕ × AttemptOutcome) → TaskReport
report_from i s own = record {
  serving = serving_after (first_serving s) own;
  open_job = open_job s own;
  span = span_from s (cut own);
  row = row_of i s own;
  counts = counts_of s own;
  start = s.start;
}

report_from-is : (i : ℕ) (s : SetTask) (own : List (ℕ × AttemptOutcome))
    → report_from i s own ≡ report_of i s (length own) (moments (first_serving s) own) (work_after (first_work s) own) (span_from s (cut own))
report_from-is i s own = sym (ap (λ (w : Work). report_of i s (length own) (moments (first_serving s) own) w (span_from s (cut own))) (work_is s own))

-- a record more, which the server takes as k
abbrev gone_as : ℕ → AttemptOutcome → AttemptOutcome → TaskReport → TaskReport
gone_as u o k x = record x {
  serving = after u k (due u x.serving).account;
  open_job = gone_on (u, o) x.open_job;
  span = spanned u x.open_job.ticks x.span;
  row = with_tick x.row;
  counts = with_record u k x.serving x.counts;
}

abbrev tallied_as : ℕ → AttemptOutcome → AttemptOutcome → TaskReport → TaskReport
tallied_as u o k x = left u o (gone_as u o k x)

-- the span of what a record leaves open
abbrev span_by : ℕ × AttemptOutcome → Work → OpenSpan → OpenSpan
span_by e w p = cond (ends_job e.1)
    (span_at (after e.0 e.1 (due e.0 w.serving).account).account (release_by w.open_job.release e.0 e.1))
    (spanned e.0 w.open_job.ticks p)

-- a record that finishes the open job, and one that doesn't
report-step : (i : ℕ) (s : SetTask) (n : ℕ) (ms : List Moment) (e : ℕ × AttemptOutcome) (w : Work) (p : OpenSpan) → w.serving.account.p ≡ s.period
    → report_of i s (n + 1) (ms ++ moment e w.serving ∷ []) (worked e w) (span_by e w p) ≡ tallied_as e.0 e.1 e.1 (report_of i s n ms w p)
report-step i s n ms e w p period =
    let serving = after e.0 e.1 (due e.0 w.serving).account in
    let o = gone_on e w.open_job in
    let j = finished_at e.0 o in
    let m = moment e w.serving in
    let at = span_at serving.account (release_by w.open_job.release e.0 e.1) in
    let on = spanned e.0 w.open_job.ticks p in
    let same : serving.account.p ≡ s.period = step-period e w.serving ∙ period in
    let counts : counts_with s (ms ++ m ∷ []) (w.jobs ++ j ∷ []) ≡ with_finished j.ticks (response j) (is_over s.period j) (with_record e.0 e.1 w.serving (counts_with s ms w.jobs)) =
    counts-job s (ms ++ m ∷ []) w.jobs j ∙ ap (with_finished j.ticks (response j) (is_over s.period j)) (counts-record s ms m w.jobs) in
    elim (ends_job e.1) as (λ b.
    report_of i s (n + 1) (ms ++ m ∷ []) (cond b
    (record { serving = serving; open_job = begun_at serving.account (release_by o.release e.0 e.1); jobs = w.jobs ++ j ∷ [] })
    (record { serving = serving; open_job = o; jobs = w.jobs })) (cond b at on)
    ≡ cond b (closed e.0 (release_by o.release e.0 e.1) (gone_as e.0 e.1 e.1 (report_of i s n ms w p))) (gone_as e.0 e.1 e.1 (report_of i s n ms w p))) [
      | true ↦ rw (same, row-job i s (n + 1) w.jobs j, counts) refl
      | false ↦ rw (counts-record s ms m w.jobs) refl
    ]

pub report_more : (i : ℕ) (s : SetTask) (own : List (ℕ × AttemptOutcome)) (u : ℕ) (o : AttemptOutcome)
    → IsTakeable o (due u (serving_after (first_serving s) own)).account
    → report_from i s (own ++ (u, o) ∷ []) ≡ tallied u o (report_from i s own)
report_more i s own u o takes =
    let w = work_after (first_work s) own in
    let later = work_after (first_work s) (own ++ (u, o) ∷ []) in
    let ms = moments (first_serving s) own in
    let p = span_from s (cut own) in
    let q = span_from s (cut (own ++ (u, o) ∷ [])) in
    let serving : w.serving ≡ serving_after (first_serving s) own = ap (λ (x : Work). x.serving) (work_is s own) in
    let period : w.serving.account.p ≡ s.period = ap (λ (x : Serving). x.account.p) serving ∙ period-stays (first_serving s) own in
    let count : length (own ++ (u, o) ∷ []) ≡ length own + 1 = length-append own ((u, o) ∷ []) in
    let more : moments (first_serving s) (own ++ (u, o) ∷ []) ≡ ms ++ moment (u, o) w.serving ∷ [] =
    moments-more (first_serving s) own (u, o) ∙ ap (λ (v : Serving). ms ++ moment (u, o) v ∷ []) (sym serving) in
    let account : account_after s (own ++ (u, o) ∷ []) ≡ (after u o (due u (serving_after (first_serving s) own)).account).account =
    ap (λ (v : Serving). v.account) (serving_after-append (first_serving s) own ((u, o) ∷ [])) in
    let span : q ≡ span_by (u, o) w p =
    span_more s own (u, o)
    ∙ ap (λ (a : Account). cond (ends_job o) (span_at a (release_by (open_job s own).release u o)) (spanned u (open_job s own).ticks p)) account
    ∙ ap (λ (x : Work). span_by (u, o) x p) (sym (work_is s own)) in
    report_from-is i s (own ++ (u, o) ∷ [])
    ∙ ap (λ n. report_of i s n (moments (first_serving s) (own ++ (u, o) ∷ [])) later q) count
    ∙ ap (λ (xs : List Moment). report_of i s (length own + 1) xs later q) more
    ∙ ap (λ (x : Work). report_of i s (length own + 1) (ms ++ moment (u, o) w.serving ∷ []) x q) (work_after-append (first_work s) own ((u, o) ∷ []))
    ∙ ap (λ (y : OpenSpan). report_of i s (length own + 1) (ms ++ moment (u, o) w.serving ∷ []) (worked (u, o) w) y) span
    ∙ report-step i s (length own) ms (u, o) w p period
    ∙ ap (tallied_as u o o) (sym (report_from-is i s own))
    ∙ ap (λ (k : AttemptOutcome). tallied_as u o k (report_from i s own)) (sym (taken-same o (due u (serving_after (first_serving s) own)).account takes))
