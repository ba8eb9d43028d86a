-- The needs that a profile counts are those of the finished jobs.
use Rattle.rt_profile.proofs.Common.{◌≡◌, ℕ, suc, ◌+◌, ◌^◌, ◌<◌, ◌≤◌, ◌==◌, Bool, true, false, cond, List, [], ◌∷◌, ◌++◌, length, map, refl, ap, ◌∙◌, arith, length-append, SetTask, Attempt, AttemptOutcome, Record, Idle, Busy, ends_job, attempts, with_need, TaskCounts, with_pc, with_outcome, finished, counted, counted_all}
use Rattle.rt_history.specs.OwnPart.{own_from, own}
use Rattle.rt_history.specs.Job.{Job, job_of, jobs_after}
use Rattle.rt_profile.specs.Needs.{needs}
use Rattle.rt_profile.specs.NeedCounts.{NeedState, ticked, job_done}

-- ---- the needs of records

-- of an own part that goes on after n records of the open job
abbrev pub needs_after : ℕ → List Attempt → List ℕ
needs_after n [] = []
needs_after n (r ∷ rs) = cond (ends_job r.outcome) ((n + 1) ∷ needs_after 0 rs) (needs_after (n + 1) rs)

abbrev needs_by : ℕ → List (ℕ × AttemptOutcome) → List ℕ
needs_by n [] = []
needs_by n (e ∷ es) = cond (ends_job e.1) ((n + 1) ∷ needs_by 0 es) (needs_by (n + 1) es)

abbrev ticks_of : List Job → List ℕ
ticks_of js = map (λ j. j.ticks) js

jobs-ticks : (s : SetTask) (before piece es : List (ℕ × AttemptOutcome)) → ticks_of (jobs_after s before piece es) ≡ needs_by (length piece) es
jobs-ticks s before piece [] = refl
jobs-ticks s before piece (e ∷ es) =
    by_end (ends_job e.1) (jobs-ticks s (before ++ (piece ++ e ∷ [])) [] es) (jobs-ticks s before (piece ++ e ∷ []) es)
  where
    size : length (piece ++ e ∷ []) ≡ length piece + 1
    size = length-append piece (e ∷ [])

    by_end : (b : Bool) → ticks_of (jobs_after s (before ++ (piece ++ e ∷ [])) [] es) ≡ needs_by 0 es
        → ticks_of (jobs_after s before (piece ++ e ∷ []) es) ≡ needs_by (length (piece ++ e ∷ [])) es
        → ticks_of (cond b (job_of s before (piece ++ e ∷ []) e.0 ∷ jobs_after s (before ++ (piece ++ e ∷ [])) [] es) (jobs_after s before (piece ++ e ∷ []) es))
        ≡ cond b ((length piece + 1) ∷ needs_by 0 es) (needs_by (length piece + 1) es)
    by_end true done on = ap (λ (n : ℕ). n ∷ ticks_of (jobs_after s (before ++ (piece ++ e ∷ [])) [] es)) size ∙ ap (λ (vs : List ℕ). (length piece + 1) ∷ vs) done
    by_end false done on = on ∙ ap (λ (n : ℕ). needs_by n es) size

own-needs : (n u i : ℕ) (h : List Record) → needs_by n (own_from u i h) ≡ needs_after n (attempts i h)
own-needs n u i [] = refl
own-needs n u i (Idle ∷ h) = own-needs n (u + 1) i h
own-needs n u i (Busy a ∷ h) =
    by_task (a.task == i) (ends_job a.outcome) refl (own-needs n (u + 1) i h) (own-needs (n + 1) (u + 1) i h) (own-needs 0 (u + 1) i h)
  where
    by_task : (b c : Bool) → ends_job a.outcome ≡ c → needs_by n (own_from (u + 1) i h) ≡ needs_after n (attempts i h)
        → needs_by (n + 1) (own_from (u + 1) i h) ≡ needs_after (n + 1) (attempts i h) → needs_by 0 (own_from (u + 1) i h) ≡ needs_after 0 (attempts i h)
        → needs_by n (cond b ((u, a.outcome) ∷ own_from (u + 1) i h) (own_from (u + 1) i h)) ≡ needs_after n (cond b (a ∷ attempts i h) (attempts i h))
    by_task false c is other on done = other
    by_task true true is other on done = rw is (ap (λ (vs : List ℕ). (n + 1) ∷ vs) done)
    by_task true false is other on done = rw is on

pub needs-are : (i : ℕ) (s : SetTask) (h : List Record) → needs i s h ≡ needs_after 0 (attempts i h)
needs-are i s h = jobs-ticks s [] [] (own i h) ∙ own-needs 0 0 i h

-- ---- their size

abbrev pub AreSmall : List ℕ → Type 0
AreSmall [] = Unit {0}
AreSmall (v ∷ vs) = (v < 2 ^ 41) × AreSmall vs

pub small-needs : (n : ℕ) (rs : List Attempt) → n + length rs < 2 ^ 41 → AreSmall (needs_after n rs)
small-needs n [] few = tt
small-needs n (r ∷ rs) few =
    let one : n + 1 < 2 ^ 41 = omega (arith, few) in
    let done = small-needs 0 rs (omega (arith, few)) in
    let on = small-needs (n + 1) rs (omega (arith, few)) in
    elim (ends_job r.outcome) as (λ b. AreSmall (cond b ((n + 1) ∷ needs_after 0 rs) (needs_after (n + 1) rs))) [ true ↦ (one, done) | false ↦ on ]

pub length-attempts : (i : ℕ) (h : List Record) → length (attempts i h) ≤ length h
length-attempts i [] = omega arith
length-attempts i (Idle ∷ h) = omega (arith, length-attempts i h)
length-attempts i (Busy a ∷ h) =
    let le = length-attempts i h in
    elim (a.task == i) as (λ b. length (cond b (a ∷ attempts i h) (attempts i h)) ≤ suc (length h)) [ true ↦ omega (arith, le) | false ↦ omega (arith, le) ]

-- ---- what is counted

outcome-needs : (o : AttemptOutcome) (x : TaskCounts) (b : Bool) → ends_job o ≡ b → (with_outcome o x).needs ≡ cond b (job_done x.needs) x.needs
outcome-needs o x true is = ap (λ (b : Bool). (cond b (finished x) x).needs) is
outcome-needs o x false is = ap (λ (b : Bool). (cond b (finished x) x).needs) is

counted-needs : (r : Attempt) (x : TaskCounts) (b : Bool) → ends_job r.outcome ≡ b → (counted r x).needs ≡ cond b (job_done (ticked x.needs)) (ticked x.needs)
counted-needs r x b is = outcome-needs r.outcome (with_pc r.pc x) b is

-- the counts after these needs
abbrev pub with_needs : List ℕ → List ℕ → List ℕ
with_needs ns [] = ns
with_needs ns (v ∷ vs) = with_needs (with_need v ns) vs

pub needs-all : (x : TaskCounts) (rs : List Attempt) → (counted_all x rs).needs.counts ≡ with_needs x.needs.counts (needs_after x.needs.current rs)
needs-all x [] = refl
needs-all x (r ∷ rs) = by_end (ends_job r.outcome) refl (needs-all (counted r x) rs)
  where
    by_end : (b : Bool) → ends_job r.outcome ≡ b
        → (counted_all (counted r x) rs).needs.counts ≡ with_needs (counted r x).needs.counts (needs_after (counted r x).needs.current rs)
        → (counted_all (counted r x) rs).needs.counts ≡ with_needs x.needs.counts (cond b ((x.needs.current + 1) ∷ needs_after 0 rs) (needs_after (x.needs.current + 1) rs))
    by_end true is all = all ∙ ap (λ (m : NeedState). with_needs m.counts (needs_after m.current rs)) (counted-needs r x true is)
    by_end false is all = all ∙ ap (λ (m : NeedState). with_needs m.counts (needs_after m.current rs)) (counted-needs r x false is)
