-- Jobs, one record more: their releases, and what makes them hard.
use Rattle.rt_history.proofs.Common.{◌≡◌, ℕ, ◌+◌, ◌≤◌, nat_le, Bool, true, false, List, [], ◌∷◌, ◌++◌, length, length-append, refl, sym, ap, ◌∙◌, arith, AttemptOutcome, serving_after}
use Rattle.std.proofs.Common.{append_assoc, ◌*◌, ◌&&◌, nat_lt}
use Rattle.std.specs.List.{list_all}
use Rattle.std.proofs.lemmas.Bool.{leb-true, le-leb, le-ltb, and_parts, and_from}
use Rattle.std.proofs.lemmas.List.Folds.{list_all-append}
use Rattle.rt_image.specs.SystemFile.{SetTask}
use Rattle.rt_history.specs.declared.record.AttemptOutcome.TheVariants.{Sleep}
use Rattle.rt_history.specs.Serving.{Serving, first_serving, due, after}
use Rattle.rt_history.specs.Job.{Job, response, is_hard, is_late, ends_job, is_calm, Release, release_by, release_after, release_of, is_fresh}
use Rattle.rt_history.proofs.ServingLaws.{serving_after-append}

-- ---- releases

pub release_after-append : (r : Release) (es fs : List (ℕ × AttemptOutcome)) → release_after r (es ++ fs) ≡ release_after (release_after r es) fs
release_after-append r [] fs = refl
release_after-append r (e ∷ es) fs = release_after-append (release_by r e.0 e.1) es fs

-- a job has one release: only a sleep names another
pub release-kept : (r : Release) (u : ℕ) (outcome : AttemptOutcome) → ends_job outcome ≡ false → release_by r u outcome ≡ r
release-kept r u (Sleep w) on = absurd cc
release-kept r u outcome on = refl

pub release-last : (s : SetTask) (before piece : List (ℕ × AttemptOutcome)) (e : ℕ × AttemptOutcome)
    → release_of s (before ++ (piece ++ e ∷ [])) ≡ release_by (release_of s (before ++ piece)) e.0 e.1
release-last s before piece e = ap (release_of s) (sym (append_assoc before piece (e ∷ []))) ∙ release_after-append _ (before ++ piece) (e ∷ [])

-- where the job ends by a sleep, the next one is released at its tick, and awaited where that is to come
pub release-slept : (s : SetTask) (before piece : List (ℕ × AttemptOutcome)) (u w : ℕ)
    → release_of s (before ++ (piece ++ (u, Sleep w) ∷ [])) ≡ record { tick = w; awaited = nat_lt u w }
release-slept s before piece u w = release-last s before piece (u, Sleep w)

-- the first release is a fresh wake
pub first-fresh : (s : SetTask) → is_fresh s (release_of s []) [] ≡ true
first-fresh s = le-leb (0 * s.budget) (0 * s.period + s.start * s.budget) (omega arith)

-- ---- pieces

and-true : (b : Bool) → (b && true) ≡ b
and-true true = refl
and-true false = refl

pub calm-more : (piece : List (ℕ × AttemptOutcome)) (e : ℕ × AttemptOutcome) → list_all is_calm (piece ++ e ∷ []) ≡ (list_all is_calm piece && is_calm e)
calm-more piece e = list_all-append is_calm piece (e ∷ []) ∙ ap (λ b. list_all is_calm piece && b) (and-true (is_calm e))

pub calm-parts : (piece : List (ℕ × AttemptOutcome)) (e : ℕ × AttemptOutcome) → list_all is_calm (piece ++ e ∷ []) ≡ true
    → (list_all is_calm piece ≡ true) × (is_calm e ≡ true)
calm-parts piece e calm = and_parts (list_all is_calm piece) (is_calm e) (sym (calm-more piece e) ∙ calm)

pub ticks-more : (piece : List (ℕ × AttemptOutcome)) (e : ℕ × AttemptOutcome) → length (piece ++ e ∷ []) ≡ length piece + 1
ticks-more piece e = length-append piece (e ∷ [])

-- how a server stands after one record more of the open job
pub serving-more : (s : Serving) (before piece : List (ℕ × AttemptOutcome)) (e : ℕ × AttemptOutcome)
    → serving_after s (before ++ (piece ++ e ∷ [])) ≡ after e.0 e.1 (due e.0 (serving_after s (before ++ piece))).account
serving-more s before piece e = ap (serving_after s) (sym (append_assoc before piece (e ∷ []))) ∙ serving_after-append s (before ++ piece) (e ∷ [])

pub after-same : (s : SetTask) (es : List (ℕ × AttemptOutcome)) (e : ℕ × AttemptOutcome) (v : Serving) → v ≡ serving_after (first_serving s) es
    → after e.0 e.1 (due e.0 v).account ≡ serving_after (first_serving s) (es ++ e ∷ [])
after-same s es e v same = ap (λ (w : Serving). after e.0 e.1 (due e.0 w).account) same ∙ sym (serving_after-append (first_serving s) es (e ∷ []))

-- ---- hard jobs

-- what makes a job hard
pub hard-parts : (j : Job) → is_hard j ≡ true → (j.fresh ≡ true) × (j.calm ≡ true) × (j.ticks ≤ j.budget)
hard-parts j hard =
    let first = and_parts j.fresh (j.calm && nat_le j.ticks j.budget) hard in
    let second = and_parts j.calm (nat_le j.ticks j.budget) first.1 in
    (first.0, second.0, leb-true j.ticks j.budget second.1)

pub is_hard-from : (j : Job) → j.fresh ≡ true → j.calm ≡ true → j.ticks ≤ j.budget → is_hard j ≡ true
is_hard-from j fresh calm few =
    and_from j.fresh (j.calm && nat_le j.ticks j.budget) fresh (and_from j.calm (nat_le j.ticks j.budget) calm (le-leb j.ticks j.budget few))

pub in_time : (period : ℕ) (j : Job) → (is_hard j ≡ true → j.finish + 1 ≤ j.release + period) → is_late period j ≡ false
in_time period j ends =
    elim (is_hard j) as (λ b. is_hard j ≡ b → (b && nat_lt period (response j)) ≡ false) [
      | true ↦ λ hard. let within = ends hard in le-ltb period (response j) (omega (arith, within))
      | false ↦ λ soft. refl
    ] refl
