-- An own part that is cut behind its last sleep or end, one record more.
use Rattle.rt_report.proofs.Common.{append_assoc, ◌≡◌, ℕ, zero, suc, ◌+◌, ◌-◌, ◌==◌, Bool, true, false, cond, List, [], ◌∷◌, ◌++◌, length, Option, Some, None, refl, sym, ap, ◌∙◌, arith, add-zero, nat_tests, append-nil, Account, SetTask, AttemptOutcome, Serving, first_serving, serving_after, release_by, ends_job, jobs, OpenJob, open_job, gone_on, OpenSpan, span_from, spanned, detail_in}
use Rattle.rt_history.specs.Job.{Release, release_of, account_after}
use Rattle.rt_history.proofs.JobLaws.{calm-more, ticks-more}
use Rattle.rt_laws.specs.OpenJob.{open_of, open_after}
use Rattle.rt_laws.specs.Work.{Work, first_work, worked, work_after}
use Rattle.rt_laws.proofs.WorkLaws.{work_after-append, work_is, open_worked}
use Rattle.rt_report.specs.declared.detailed_job.JobDetail.{JobDetail}
use Rattle.rt_report.specs.JobDetails.{Cut, cut_after, cut, longer, begin_of, end_of, account_from, detail_of}
use Rattle.rt_report.specs.Standing.{first_tick}
use Rattle.rt_report.specs.Working.Tallied.{span_at}

-- ---- the cut

-- behind a record that ends a job all is of finished ones
abbrev next_cut : ℕ × AttemptOutcome → Cut → Cut
next_cut e c = cond (ends_job e.1) (record { before = c.before ++ (c.piece ++ e ∷ []); piece = [] }) (longer e c)

cut-more : (before piece es : List (ℕ × AttemptOutcome)) (e : ℕ × AttemptOutcome) → cut_after before piece (es ++ e ∷ []) ≡ next_cut e (cut_after before piece es)
cut-more before piece [] e = refl
cut-more before piece (f ∷ es) e =
    let done = before ++ (piece ++ f ∷ []) in
    elim (ends_job f.1) as (λ b. cond b (cut_after done [] (es ++ e ∷ [])) (cut_after before (piece ++ f ∷ []) (es ++ e ∷ []))
    ≡ next_cut e (cond b (cut_after done [] es) (cut_after before (piece ++ f ∷ []) es))) [
      | true ↦ cut-more done [] es e
      | false ↦ cut-more before (piece ++ f ∷ []) es e
    ]

-- no record is lost
cut-whole : (before piece es : List (ℕ × AttemptOutcome)) → (cut_after before piece es).before ++ (cut_after before piece es).piece ≡ before ++ (piece ++ es)
cut-whole before piece [] = ap (λ (x : List (ℕ × AttemptOutcome)). before ++ x) (sym (append-nil piece))
cut-whole before piece (e ∷ es) =
    let done = before ++ (piece ++ e ∷ []) in
    let one : done ++ es ≡ before ++ (piece ++ e ∷ es) =
    append_assoc before (piece ++ e ∷ []) es ∙ ap (λ (x : List (ℕ × AttemptOutcome)). before ++ x) (append_assoc piece (e ∷ []) es) in
    elim (ends_job e.1) as (λ b. (cond b (cut_after done [] es) (cut_after before (piece ++ e ∷ []) es)).before
    ++ (cond b (cut_after done [] es) (cut_after before (piece ++ e ∷ []) es)).piece ≡ before ++ (piece ++ e ∷ es)) [
      | true ↦ cut-whole done [] es ∙ one
      | false ↦ cut-whole before (piece ++ e ∷ []) es ∙ ap (λ (x : List (ℕ × AttemptOutcome)). before ++ x) (append_assoc piece (e ∷ []) es)
    ]

-- the open job is that of the cut
open-cut : (s : SetTask) (before piece es : List (ℕ × AttemptOutcome))
    → open_after s before piece es ≡ open_of s (cut_after before piece es).before (cut_after before piece es).piece
open-cut s before piece [] = refl
open-cut s before piece (e ∷ es) =
    let done = before ++ (piece ++ e ∷ []) in
    elim (ends_job e.1) as (λ b. cond b (open_after s done [] es) (open_after s before (piece ++ e ∷ []) es)
    ≡ open_of s (cond b (cut_after done [] es) (cut_after before (piece ++ e ∷ []) es)).before (cond b (cut_after done [] es) (cut_after before (piece ++ e ∷ []) es)).piece) [
      | true ↦ open-cut s done [] es
      | false ↦ open-cut s before (piece ++ e ∷ []) es
    ]

pub open_cut : (s : SetTask) (own : List (ℕ × AttemptOutcome)) → open_job s own ≡ open_of s (cut own).before (cut own).piece
open_cut s own = open-cut s [] [] own

-- one record more of the open job
pub open_longer : (s : SetTask) (c : Cut) (e : ℕ × AttemptOutcome) → gone_on e (open_of s c.before c.piece) ≡ open_of s c.before (c.piece ++ e ∷ [])
open_longer s c e = rw (calm-more c.piece e, ticks-more c.piece e) refl

-- ---- its span

suc-is-some : (n : ℕ) → (suc n == 0) ≡ false
suc-is-some n = grind (arith, nat_tests)

first-more : (piece : List (ℕ × AttemptOutcome)) (e : ℕ × AttemptOutcome) → first_tick (piece ++ e ∷ []) ≡ cond (length piece == 0) e.0 (first_tick piece)
first-more [] e = refl
first-more (f ∷ piece) e = rw (suc-is-some (length piece)) refl

end-more : (u : ℕ) (piece : List (ℕ × AttemptOutcome)) (e : ℕ × AttemptOutcome) → end_of u (piece ++ e ∷ []) ≡ e.0 + 1
end-more u [] e = refl
end-more u (f ∷ piece) e = end-more (f.0 + 1) piece e

pub span_longer : (s : SetTask) (c : Cut) (e : ℕ × AttemptOutcome) → spanned e.0 (length c.piece) (span_from s c) ≡ span_from s (longer e c)
span_longer s c e = rw (first-more c.piece e, end-more 0 c.piece e) refl

-- a record that ends a job: the release that it makes, and the account that it leaves
release-made : (s : SetTask) (own : List (ℕ × AttemptOutcome)) (e : ℕ × AttemptOutcome) → ends_job e.1 ≡ true
    → (open_job s (own ++ e ∷ [])).release ≡ release_by (open_job s own).release e.0 e.1
release-made s own e ends =
    let w : Work = record { serving = serving_after (first_serving s) own; open_job = open_job s own; jobs = jobs s own } in
    let last : (worked e w).open_job.release ≡ release_by (open_job s own).release e.0 e.1 = rw ends refl in
    ap (λ (o : OpenJob). o.release) (sym (open_worked s (own ++ e ∷ [])))
    ∙ ap (λ (x : Work). x.open_job.release) (work_after-append (first_work s) own (e ∷ []) ∙ ap (worked e) (work_is s own)) ∙ last

cut-ended : (own : List (ℕ × AttemptOutcome)) (e : ℕ × AttemptOutcome) → ends_job e.1 ≡ true → cut (own ++ e ∷ []) ≡ record { before = own ++ e ∷ []; piece = [] }
cut-ended own e ends =
    let c = cut own in
    let whole : c.before ++ (c.piece ++ e ∷ []) ≡ own ++ e ∷ [] =
    sym (append_assoc c.before c.piece (e ∷ [])) ∙ ap (λ (x : List (ℕ × AttemptOutcome)). x ++ e ∷ []) (cut-whole [] [] own) in
    cut-more [] [] own e ∙ ap (λ b. cond b (record { before = c.before ++ (c.piece ++ e ∷ []); piece = [] }) (longer e c)) ends
    ∙ ap (λ (x : List (ℕ × AttemptOutcome)). record { before = x; piece = [] }) whole

cut-goes : (own : List (ℕ × AttemptOutcome)) (e : ℕ × AttemptOutcome) → ends_job e.1 ≡ false → cut (own ++ e ∷ []) ≡ longer e (cut own)
cut-goes own e goes =
    let c = cut own in
    cut-more [] [] own e ∙ ap (λ b. cond b (record { before = c.before ++ (c.piece ++ e ∷ []); piece = [] }) (longer e c)) goes

-- the span of the open job after one record more
abbrev pub next_span : SetTask → List (ℕ × AttemptOutcome) → ℕ × AttemptOutcome → OpenSpan
next_span s own e = cond (ends_job e.1)
    (span_at (account_after s (own ++ e ∷ [])) (release_by (open_job s own).release e.0 e.1))
    (spanned e.0 (open_job s own).ticks (span_from s (cut own)))

pub span_more : (s : SetTask) (own : List (ℕ × AttemptOutcome)) (e : ℕ × AttemptOutcome) → span_from s (cut (own ++ e ∷ [])) ≡ next_span s own e
span_more s own e =
    let at = span_at (account_after s (own ++ e ∷ [])) (release_by (open_job s own).release e.0 e.1) in
    let on = spanned e.0 (open_job s own).ticks (span_from s (cut own)) in
    elim (ends_job e.1) as (λ b. ends_job e.1 ≡ b → span_from s (cut (own ++ e ∷ [])) ≡ cond b at on) [
      | true ↦ λ ends.
          let is = cut-ended own e ends in
          let release : release_of s (own ++ e ∷ []) ≡ release_by (open_job s own).release e.0 e.1 =
          ap (λ (c : Cut). release_of s c.before) (sym is) ∙ ap (λ (o : OpenJob). o.release) (sym (open_cut s (own ++ e ∷ []))) ∙ release-made s own e ends in
          ap (span_from s) is ∙ ap (span_at (account_after s (own ++ e ∷ []))) release
      | false ↦ λ goes.
          let ticks : (open_job s own).ticks ≡ length (cut own).piece = ap (λ (o : OpenJob). o.ticks) (open_cut s own) in
          ap (span_from s) (cut-goes own e goes) ∙ sym (span_longer s (cut own) e)
          ∙ ap (λ (n : ℕ). spanned e.0 n (span_from s (cut own))) (sym ticks)
    ] refl

-- ---- the details

pub detail_is : (s : SetTask) (before piece : List (ℕ × AttemptOutcome))
    → detail_in (open_of s before piece) (span_from s (record { before = before; piece = piece })) ≡ detail_of s (record { before = before; piece = piece })
detail_is s before [] = refl
detail_is s before (e ∷ piece) = rw (suc-is-some (length piece)) refl
