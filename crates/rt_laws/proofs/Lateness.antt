-- No hard job is late.
use Rattle.rt_laws.proofs.Common.{◌≡◌, ℕ, true, false, cond, List, [], ◌∷◌, ◌++◌, slice_get, All, Some, refl, All-nil, All-cons, Fits, SetTask, TaskSet, Active, AttemptOutcome, IsAdmittedSet, Serving, first_serving, due, after, own, legal, ends_job, job_of, jobs_after, jobs}
use Rattle.rt_history.specs.Job.{is_late}
use Rattle.rt_history.proofs.JobLaws.{hard-parts, in_time}
use Rattle.rt_laws.proofs.OwnParts.{FitsAlong, fits_along}
use Rattle.rt_laws.proofs.OpenJobs.{Opened, opened-first, served, opened-on, opened-done, hard-open, served-ends}

job-in_time : (s : SetTask) (before piece : List (ℕ × AttemptOutcome)) (e : ℕ × AttemptOutcome) (v : Serving) → Opened s before piece v → (due e.0 v).mode ≡ Active
    → Fits e.0 (due e.0 v).account → is_late s.period (job_of s before (piece ++ e ∷ []) e.0) ≡ false
job-in_time s before piece e v now active fit =
    in_time s.period (job_of s before (piece ++ e ∷ []) e.0)
    (λ is.
    let parts = hard-parts (job_of s before (piece ++ e ∷ []) e.0) is in
    let hard = hard-open s before piece e parts.0 parts.1 parts.2 in
    served-ends s before piece e.0 (due e.0 v).account hard (served s before piece e.0 v now active hard) fit)

none_late-after : (s : SetTask) (before piece es : List (ℕ × AttemptOutcome)) (v : Serving) → Opened s before piece v → FitsAlong v es
    → All (λ j. is_late s.period j ≡ false) (jobs_after s before piece es)
none_late-after s before piece [] v now along = All-nil (λ j. is_late s.period j ≡ false)
none_late-after s before piece (e ∷ es) v now along =
    elim (ends_job e.1) as (λ b. ends_job e.1 ≡ b → All (λ j. is_late s.period j ≡ false)
    (cond b (job_of s before (piece ++ e ∷ []) e.0 ∷ jobs_after s (before ++ (piece ++ e ∷ [])) [] es) (jobs_after s before (piece ++ e ∷ []) es))) [
      | true ↦ λ ends. All-cons (λ j. is_late s.period j ≡ false) (job_of s before (piece ++ e ∷ []) e.0) (jobs_after s (before ++ (piece ++ e ∷ [])) [] es)
          (job-in_time s before piece e v now along.0 along.1)
          (none_late-after s (before ++ (piece ++ e ∷ [])) [] es (after e.0 e.1 (due e.0 v).account) (opened-done s before piece e v now ends) along.2)
      | false ↦ λ on. none_late-after s before (piece ++ e ∷ []) es (after e.0 e.1 (due e.0 v).account) (opened-on s before piece e v now along.0 on) along.2
    ] refl

pub none_late : (set : TaskSet) (t i : ℕ) (s : SetTask) → IsAdmittedSet set → slice_get set.tasks i ≡ Some s
    → All (λ j. is_late s.period j ≡ false) (jobs s (own i (legal set t)))
none_late set t i s ok there = none_late-after s [] [] (own i (legal set t)) (first_serving s) (opened-first s) (fits_along set t i s ok there)
