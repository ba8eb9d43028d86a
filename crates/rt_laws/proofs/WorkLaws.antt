-- What is kept from record to record is what the whole own part says.
use Rattle.rt_laws.proofs.Common.{append_assoc, ◌≡◌, ℕ, true, false, cond, List, [], ◌∷◌, ◌++◌, refl, sym, ap, ◌∙◌, Account, SetTask, AttemptOutcome, Serving, first_serving, due, charged, after, serving_after, Job, Release, release_of, account_after, ends_job, job_of, jobs_after, jobs, ticks-more, open_after, open_job}
use Rattle.std.proofs.lemmas.List.{append-nil}
use Rattle.rt_history.specs.Job.{release_by, release_after}
use Rattle.rt_history.proofs.JobLaws.{release_after-append, release-kept, serving-more, calm-more}
use Rattle.rt_laws.specs.OpenJob.{open_of}
use Rattle.rt_laws.specs.Work.{begun_at, gone_on, finished_at, Work, first_work, worked, work_after}

-- ---- one record more

pub work_after-append : (w : Work) (es fs : List (ℕ × AttemptOutcome)) → work_after w (es ++ fs) ≡ work_after (work_after w es) fs
work_after-append w [] fs = refl
work_after-append w (e ∷ es) fs = work_after-append (worked e w) es fs

-- the records of a piece leave the release
abbrev IsQuiet : SetTask → List (ℕ × AttemptOutcome) → List (ℕ × AttemptOutcome) → Type 0
IsQuiet s before piece = release_after (release_of s before) piece ≡ release_of s before

quiet-more : (s : SetTask) (before piece : List (ℕ × AttemptOutcome)) (e : ℕ × AttemptOutcome) → ends_job e.1 ≡ false → IsQuiet s before piece → IsQuiet s before (piece ++ e ∷ [])
quiet-more s before piece e goes quiet =
    release_after-append (release_of s before) piece (e ∷ []) ∙ ap (λ (r : Release). release_by r e.0 e.1) quiet ∙ release-kept (release_of s before) e.0 e.1 goes

release-more : (s : SetTask) (before piece : List (ℕ × AttemptOutcome)) (e : ℕ × AttemptOutcome) → IsQuiet s before piece
    → release_of s (before ++ (piece ++ e ∷ [])) ≡ release_by (release_of s before) e.0 e.1
release-more s before piece e quiet =
    release_after-append _ before (piece ++ e ∷ []) ∙ release_after-append (release_of s before) piece (e ∷ []) ∙ ap (λ (r : Release). release_by r e.0 e.1) quiet

open-more : (s : SetTask) (before piece : List (ℕ × AttemptOutcome)) (e : ℕ × AttemptOutcome) → open_of s before (piece ++ e ∷ []) ≡ gone_on e (open_of s before piece)
open-more s before piece e = rw (calm-more piece e, ticks-more piece e) refl

-- ---- what is kept at a cut

-- the records `before` of finished jobs, and `piece` of the open one
abbrev work_at : SetTask → List (ℕ × AttemptOutcome) → List (ℕ × AttemptOutcome) → List Job → Work
work_at s before piece js = record { serving = serving_after (first_serving s) (before ++ piece); open_job = open_of s before piece; jobs = js }

-- a record that doesn't finish the job
work-goes : (s : SetTask) (before piece : List (ℕ × AttemptOutcome)) (js : List Job) (e : ℕ × AttemptOutcome) → ends_job e.1 ≡ false
    → worked e (work_at s before piece js) ≡ work_at s before (piece ++ e ∷ []) js
work-goes s before piece js e goes = rw (goes, serving-more (first_serving s) before piece e, calm-more piece e, ticks-more piece e) refl

-- the account after a record more of the open job
account-more : (s : SetTask) (before piece : List (ℕ × AttemptOutcome)) (e : ℕ × AttemptOutcome)
    → account_after s (before ++ (piece ++ e ∷ [])) ≡ charged e.1 (due e.0 (serving_after (first_serving s) (before ++ piece))).account
account-more s before piece e = ap (λ (v : Serving). v.account) (serving-more (first_serving s) before piece e)

-- the next job as it opens
open-next : (s : SetTask) (done : List (ℕ × AttemptOutcome)) (a : Account) (r : Release) → account_after s done ≡ a → release_of s done ≡ r → open_of s done [] ≡ begun_at a r
open-next s done a r account release =
    ap (λ (b : Account). begun_at b (release_of s done)) account ∙ ap (begun_at a) release

-- a record that does
work-ends : (s : SetTask) (before piece : List (ℕ × AttemptOutcome)) (js : List Job) (e : ℕ × AttemptOutcome) → ends_job e.1 ≡ true → IsQuiet s before piece
    → worked e (work_at s before piece js) ≡ work_at s (before ++ (piece ++ e ∷ [])) [] (js ++ job_of s before (piece ++ e ∷ []) e.0 ∷ [])
work-ends s before piece js e ends quiet =
    let done = before ++ (piece ++ e ∷ []) in
    let more = serving-more (first_serving s) before piece e in
    let opens = open-next s done _ _ (account-more s before piece e) (release-more s before piece e quiet) in
    rw (ends, append-nil done, opens, more, calm-more piece e, ticks-more piece e) refl

-- ---- all that follows a cut

abbrev told_from : SetTask → List (ℕ × AttemptOutcome) → List (ℕ × AttemptOutcome) → List Job → List (ℕ × AttemptOutcome) → Work
told_from s before piece js es = record {
  serving = serving_after (first_serving s) (before ++ (piece ++ es));
  open_job = open_after s before piece es;
  jobs = js ++ jobs_after s before piece es;
}

told-goes : (s : SetTask) (before piece : List (ℕ × AttemptOutcome)) (js : List Job) (e : ℕ × AttemptOutcome) (es : List (ℕ × AttemptOutcome)) → ends_job e.1 ≡ false
    → told_from s before (piece ++ e ∷ []) js es ≡ told_from s before piece js (e ∷ es)
told-goes s before piece js e es goes = rw (goes, append_assoc piece (e ∷ []) es) refl

told-ends : (s : SetTask) (before piece : List (ℕ × AttemptOutcome)) (js : List Job) (e : ℕ × AttemptOutcome) (es : List (ℕ × AttemptOutcome)) → ends_job e.1 ≡ true
    → told_from s (before ++ (piece ++ e ∷ [])) [] (js ++ job_of s before (piece ++ e ∷ []) e.0 ∷ []) es ≡ told_from s before piece js (e ∷ es)
told-ends s before piece js e es ends =
    let j = job_of s before (piece ++ e ∷ []) e.0 in
    let later = jobs_after s (before ++ (piece ++ e ∷ [])) [] es in
    let joined : (before ++ (piece ++ e ∷ [])) ++ es ≡ before ++ (piece ++ e ∷ es) =
    append_assoc before (piece ++ e ∷ []) es ∙ ap (λ (x : List (ℕ × AttemptOutcome)). before ++ x) (append_assoc piece (e ∷ []) es) in
    rw (ends, joined, append_assoc js (j ∷ []) later) refl

work_from : (s : SetTask) (before piece : List (ℕ × AttemptOutcome)) (js : List Job) (es : List (ℕ × AttemptOutcome)) → IsQuiet s before piece
    → work_after (work_at s before piece js) es ≡ told_from s before piece js es
work_from s before piece js [] quiet = rw (append-nil piece, append-nil js) refl
work_from s before piece js (e ∷ es) quiet =
    elim (ends_job e.1) as (λ b. ends_job e.1 ≡ b → work_after (worked e (work_at s before piece js)) es ≡ told_from s before piece js (e ∷ es)) [
      | true ↦ λ ends.
          let j = job_of s before (piece ++ e ∷ []) e.0 in
          ap (λ (w : Work). work_after w es) (work-ends s before piece js e ends quiet)
          ∙ work_from s (before ++ (piece ++ e ∷ [])) [] (js ++ j ∷ []) es refl ∙ told-ends s before piece js e es ends
      | false ↦ λ goes.
          ap (λ (w : Work). work_after w es) (work-goes s before piece js e goes)
          ∙ work_from s before (piece ++ e ∷ []) js es (quiet-more s before piece e goes quiet) ∙ told-goes s before piece js e es goes
    ] refl

-- ---- the laws

first_work-is : (s : SetTask) → first_work s ≡ work_at s [] [] []
first_work-is s = refl

-- what is kept after an own part
pub work_is : (s : SetTask) (own : List (ℕ × AttemptOutcome))
    → work_after (first_work s) own ≡ record { serving = serving_after (first_serving s) own; open_job = open_job s own; jobs = jobs s own }
work_is s own = work_from s [] [] [] own refl

pub jobs_worked : (s : SetTask) (own : List (ℕ × AttemptOutcome)) → (work_after (first_work s) own).jobs ≡ jobs s own
jobs_worked s own = ap (λ (w : Work). w.jobs) (work_is s own)

pub open_worked : (s : SetTask) (own : List (ℕ × AttemptOutcome)) → (work_after (first_work s) own).open_job ≡ open_job s own
open_worked s own = ap (λ (w : Work). w.open_job) (work_is s own)

pub serving_worked : (s : SetTask) (own : List (ℕ × AttemptOutcome)) → (work_after (first_work s) own).serving ≡ serving_after (first_serving s) own
serving_worked s own = ap (λ (w : Work). w.serving) (work_is s own)

-- ---- one record more, readably

-- what is kept one record later
worked_next : (s : SetTask) (own : List (ℕ × AttemptOutcome)) (e : ℕ × AttemptOutcome) → work_after (first_work s) (own ++ e ∷ []) ≡ worked e (work_after (first_work s) own)
worked_next s own e = work_after-append (first_work s) own (e ∷ [])

worked_jobs : (e : ℕ × AttemptOutcome) (w : Work) → (worked e w).jobs ≡ cond (ends_job e.1) (w.jobs ++ finished_at e.0 (gone_on e w.open_job) ∷ []) w.jobs
worked_jobs e w =
    elim (ends_job e.1) as (λ b. (cond {A = Work} b
    (record {
      serving = after e.0 e.1 (due e.0 w.serving).account;
      open_job = begun_at (charged e.1 (due e.0 w.serving).account) (release_by w.open_job.release e.0 e.1);
      jobs = w.jobs ++ finished_at e.0 (gone_on e w.open_job) ∷ [];
    })
    (record { serving = after e.0 e.1 (due e.0 w.serving).account; open_job = gone_on e w.open_job; jobs = w.jobs })).jobs
    ≡ cond b (w.jobs ++ finished_at e.0 (gone_on e w.open_job) ∷ []) w.jobs) [
      | true ↦ refl
      | false ↦ refl
    ]

pub jobs_next : (s : SetTask) (own : List (ℕ × AttemptOutcome)) (e : ℕ × AttemptOutcome)
    → jobs s (own ++ e ∷ []) ≡ cond (ends_job e.1) (jobs s own ++ finished_at e.0 (gone_on e (open_job s own)) ∷ []) (jobs s own)
jobs_next s own e =
    let w : Work = record { serving = serving_after (first_serving s) own; open_job = open_job s own; jobs = jobs s own } in
    sym (jobs_worked s (own ++ e ∷ [])) ∙ ap (λ (x : Work). x.jobs) (worked_next s own e ∙ ap (worked e) (work_is s own)) ∙ worked_jobs e w
