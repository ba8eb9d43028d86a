-- The jobs of a task that is periodic are hard: each has ended before the next release, which finds the server at its deadline or past it.
use Rattle.rt_laws.proofs.Common.{◌≡◌, ℕ, zero, suc, ◌+◌, ◌-◌, ◌*◌, ◌≤◌, nat_lt, true, false, cond, List, [], ◌∷◌, ◌++◌, length, take, slice_get, All, Option, Some, None, refl, sym, ap, subst, ◌∙◌, arith, mul-le-mul_right, le-leb, and_from, All-nil, All-cons, All-head, All-tail, Account, wakes_fresh, spent, Fits, SetTask, TaskSet, Active, AttemptOutcome, Next, End, Write, WriteRefused, Sleep, Yield, Now, Reserve, ReserveRefused, Fault, IsAdmittedSet, Serving, first_serving, due, after, own, legal, Job, ends_job, Release, release_of, account_after, is_fresh, job_of, jobs_after, jobs, first_jobs, release-slept, eligible-task}
use Rattle.std.proofs.Common.{take_all}
use Rattle.std.proofs.lemmas.Bool.{lt-ltb}
use Rattle.rt_history.specs.Job.{is_hard}
use Rattle.rt_laws.specs.Periodic.{ArePeriodic}
use Rattle.rt_laws.proofs.Accounts.{spent_cases}
use Rattle.rt_history.proofs.JobLaws.{release-last, first-fresh, is_hard-from}
use Rattle.rt_laws.proofs.OwnParts.{FitsAlong, fits_along}
use Rattle.rt_laws.proofs.OpenJobs.{MayBeHard, IsServed, Opened, opened-first, served, opened-on, opened-done, done-same, hard-open, served-ends}

-- ---- releases a period or more apart, by recursion

abbrev IsApart : ℕ → Option ℕ → ℕ → Type 0
IsApart period None release = Unit {0}
IsApart period (Some before) release = before + period ≤ release

-- where the release before them, if there was one, was this
abbrev AreApart : ℕ → Option ℕ → List Job → Type 0
AreApart period before [] = Unit {0}
AreApart period before (j ∷ js) = IsApart period before j.release × AreApart period (Some j.release) js

abbrev IsNextApart : ℕ → List Job → Type 0
IsNextApart period js = (n : ℕ) (j next : Job) → slice_get js n ≡ Some j → slice_get js (n + 1) ≡ Some next → j.release + period ≤ next.release

next-tail : (period : ℕ) (j : Job) (js : List Job) → IsNextApart period (j ∷ js) → IsNextApart period js
next-tail period j js apart n k next at then =
    let here : suc n + 1 ≡ suc (n + 1) = omega arith in
    apart (suc n) k next at (ap (slice_get (j ∷ js)) here ∙ then)

apart-by : (period : ℕ) (before : Option ℕ) (js : List Job) → ((j : Job) → slice_get js 0 ≡ Some j → IsApart period before j.release) → IsNextApart period js
    → AreApart period before js
apart-by period before [] first apart = tt
apart-by period before (j ∷ js) first apart = (
  first j refl,
  apart-by period (Some j.release) js (λ next at. apart 0 j next refl (ap (slice_get (j ∷ js)) (let one : 0 + 1 ≡ suc 0 = omega arith in one) ∙ at)) (next-tail period j js apart),
)

-- ---- the next release is a fresh wake

-- after a hard job, an account wakes afresh at a deadline that was a period after the release, and later
pub spent-fresh : (w : ℕ) (a : Account) → a.d ≤ w → wakes_fresh w (spent a) ≡ true
spent-fresh w a past =
    let low : a.d * a.q ≤ w * a.q = mul-le-mul_right a.q past in
    spent_cases (λ b. wakes_fresh w b ≡ true) a
    (λ more. le-leb (a.d * a.q) ((a.c - 1) * a.p + w * a.q) (omega (arith, low)))
    (λ last. le-leb ((a.d + a.p) * a.q) (a.q * a.p + w * a.q) (omega (arith, low)))

pub next-slept : (s : SetTask) (before piece : List (ℕ × AttemptOutcome)) (u w : ℕ) (v : Serving) → Opened s before piece v
    → MayBeHard s before piece → IsServed s before piece (due u v).account → Fits u (due u v).account → (release_of s before).tick + s.period ≤ w
    → is_fresh s (record { tick = w; awaited = nat_lt u w }) (before ++ (piece ++ (u, Sleep w) ∷ [])) ≡ true
next-slept s before piece u w v now hard serves fit apart =
    let ended = served-ends s before piece u (due u v).account hard serves fit in
    let account : account_after s (before ++ (piece ++ (u, Sleep w) ∷ [])) ≡ spent (due u v).account =
    ap (λ (x : Serving). x.account) (sym (done-same s before piece (u, Sleep w) v now)) in
    and_from (nat_lt u w) _ (lt-ltb u w (omega (arith, ended, apart)))
    (ap (wakes_fresh w) account ∙ spent-fresh w (due u v).account (omega (arith, serves.deadline, apart)))

-- where the release after a hard job is a period or more after that job's
next-fresh : (s : SetTask) (before piece : List (ℕ × AttemptOutcome)) (u : ℕ) (outcome : AttemptOutcome) (v : Serving) → 1 ≤ s.period → Opened s before piece v
    → MayBeHard s before piece → IsServed s before piece (due u v).account → Fits u (due u v).account → ends_job outcome ≡ true
    → (release_of s before).tick + s.period ≤ (release_of s (before ++ (piece ++ (u, outcome) ∷ []))).tick
    → is_fresh s (release_of s (before ++ (piece ++ (u, outcome) ∷ []))) (before ++ (piece ++ (u, outcome) ∷ [])) ≡ true
next-fresh s before piece u Next v positive now hard serves fit ends apart = absurd cc
next-fresh s before piece u End v positive now hard serves fit ends apart =
    let same : release_of s (before ++ (piece ++ (u, End) ∷ [])) ≡ release_of s before = release-last s before piece (u, End) ∙ now.release in
    absurd (omega (arith, apart, ap (λ (r : Release). r.tick) same, positive))
next-fresh s before piece u (Write n) v positive now hard serves fit ends apart = absurd cc
next-fresh s before piece u WriteRefused v positive now hard serves fit ends apart = absurd cc
next-fresh s before piece u (Sleep w) v positive now hard serves fit ends apart =
    let is = release-slept s before piece u w in
    let gap : (release_of s before).tick + s.period ≤ w = omega (arith, apart, ap (λ (r : Release). r.tick) is) in
    ap (λ r. is_fresh s r (before ++ (piece ++ (u, Sleep w) ∷ []))) is ∙ next-slept s before piece u w v now hard serves fit gap
next-fresh s before piece u Yield v positive now hard serves fit ends apart = absurd cc
next-fresh s before piece u (Now n) v positive now hard serves fit ends apart = absurd cc
next-fresh s before piece u (Reserve x) v positive now hard serves fit ends apart = absurd cc
next-fresh s before piece u ReserveRefused v positive now hard serves fit ends apart = absurd cc
next-fresh s before piece u (Fault fault) v positive now hard serves fit ends apart = absurd cc

-- ---- each job

-- one first, and then the rest of those that are looked at
take-first : {X : Type 0} (P : X → Type 0) (n : ℕ) (x : X) (xs : List X) → ((m : ℕ) → n ≡ suc m → P x × All P (take m xs)) → All P (take n (x ∷ xs))
take-first P zero x xs hold = All-nil P
take-first P (suc n) x xs hold = let all = hold n refl in All-cons P x (take n xs) all.0 all.1

-- what is known of the first n jobs
record Regular (period : ℕ) (before : Option ℕ) (js : List Job) : Type 0 where
  pub within : All (λ j. j.ticks ≤ j.budget) js
  pub calm : All (λ j. j.calm ≡ true) js
  pub apart : AreApart period before js

regular-tail : (period : ℕ) (before : Option ℕ) (j : Job) (js : List Job) → Regular period before (j ∷ js) → Regular period (Some j.release) js
regular-tail period before j js all = record {
  within = All-tail (λ k. k.ticks ≤ k.budget) j js all.within;
  calm = All-tail (λ k. k.calm ≡ true) j js all.calm;
  apart = all.apart.1;
}

-- the open job's release is a fresh wake, where it is apart from the release before
abbrev IsFreshApart : SetTask → Option ℕ → List (ℕ × AttemptOutcome) → Type 0
IsFreshApart s last before = IsApart s.period last (release_of s before).tick → is_fresh s (release_of s before) before ≡ true

pub record JobEnds (s : SetTask) (before piece : List (ℕ × AttemptOutcome)) (e : ℕ × AttemptOutcome) : Type 0 where
  pub hard : is_hard (job_of s before (piece ++ e ∷ []) e.0) ≡ true
  pub next : IsFreshApart s (Some (release_of s before).tick) (before ++ (piece ++ e ∷ []))

job-ends : (s : SetTask) (last : Option ℕ) (before piece : List (ℕ × AttemptOutcome)) (e : ℕ × AttemptOutcome) (v : Serving) (js : List Job) → 1 ≤ s.period
    → Opened s before piece v → IsFreshApart s last before → (due e.0 v).mode ≡ Active → Fits e.0 (due e.0 v).account → ends_job e.1 ≡ true
    → Regular s.period last (job_of s before (piece ++ e ∷ []) e.0 ∷ js) → JobEnds s before piece e
job-ends s last before piece e v js positive now fresh active fit ends all =
    let j = job_of s before (piece ++ e ∷ []) e.0 in
    let is : is_fresh s (release_of s before) before ≡ true = fresh all.apart.0 in
    let calm : j.calm ≡ true = All-head (λ k. k.calm ≡ true) j js all.calm in
    let few : j.ticks ≤ j.budget = All-head (λ k. k.ticks ≤ k.budget) j js all.within in
    let hard = hard-open s before piece e is calm few in
    let serves = served s before piece e.0 v now active hard in
    record { hard = is_hard-from j is calm few; next = next-fresh s before piece e.0 e.1 v positive now hard serves fit ends }

hard-after : (s : SetTask) (n : ℕ) (last : Option ℕ) (before piece es : List (ℕ × AttemptOutcome)) (v : Serving) → 1 ≤ s.period → Opened s before piece v → IsFreshApart s last before
    → FitsAlong v es → Regular s.period last (take n (jobs_after s before piece es)) → All (λ j. is_hard j ≡ true) (take n (jobs_after s before piece es))
hard-after s zero last before piece [] v positive now fresh along all = All-nil (λ j. is_hard j ≡ true)
hard-after s (suc n) last before piece [] v positive now fresh along all = All-nil (λ j. is_hard j ≡ true)
hard-after s n last before piece (e ∷ es) v positive now fresh along all =
    let done = before ++ (piece ++ e ∷ []) in
    let j = job_of s before (piece ++ e ∷ []) e.0 in
    elim (ends_job e.1) as (λ b. ends_job e.1 ≡ b
    → Regular s.period last (take n (cond b (j ∷ jobs_after s done [] es) (jobs_after s before (piece ++ e ∷ []) es)))
    → All (λ k. is_hard k ≡ true) (take n (cond b (j ∷ jobs_after s done [] es) (jobs_after s before (piece ++ e ∷ []) es)))) [
      | true ↦ λ ends all. take-first (λ k. is_hard k ≡ true) n j (jobs_after s done [] es) (λ m is.
          let first : Regular s.period last (j ∷ take m (jobs_after s done [] es)) = subst (λ k. Regular s.period last (take k (j ∷ jobs_after s done [] es))) is all in
          let here = job-ends s last before piece e v (take m (jobs_after s done [] es)) positive now fresh along.0 along.1 ends first in (
            here.hard,
            hard-after s m (Some j.release) done [] es (after e.0 e.1 (due e.0 v).account) positive (opened-done s before piece e v now ends) here.next along.2
                (regular-tail s.period last j (take m (jobs_after s done [] es)) first),
          ))
      | false ↦ λ on all. hard-after s n last before (piece ++ e ∷ []) es (after e.0 e.1 (due e.0 v).account) positive (opened-on s before piece e v now along.0 on) fresh along.2 all
    ] refl all

pub periodic_hard : (set : TaskSet) (t i n : ℕ) (s : SetTask) → IsAdmittedSet set → slice_get set.tasks i ≡ Some s
    → ArePeriodic s.period (first_jobs n set t i s) → All (λ j. is_hard j ≡ true) (first_jobs n set t i s)
periodic_hard set t i n s ok there all =
    let task = eligible-task set i s ok there in
    hard-after s n None [] [] (own i (legal set t)) (first_serving s) (omega (arith, task.budgeted, task.within)) (opened-first s) (λ apart. first-fresh s)
    (fits_along set t i s ok there)
    (record { within = all.within; calm = all.calm; apart = apart-by s.period None (first_jobs n set t i s) (λ j at. tt) all.apart })

-- where all of them are periodic
pub all_periodic_hard : (set : TaskSet) (t i : ℕ) (s : SetTask) → IsAdmittedSet set → slice_get set.tasks i ≡ Some s
    → ArePeriodic s.period (jobs s (own i (legal set t))) → All (λ j. is_hard j ≡ true) (jobs s (own i (legal set t)))
all_periodic_hard set t i s ok there all =
    let js = jobs s (own i (legal set t)) in
    let whole : take (length js) js ≡ js = take_all (length js) js (omega arith) in
    subst (All (λ j. is_hard j ≡ true)) whole
    (periodic_hard set t i (length js) s ok there (subst (ArePeriodic s.period) (sym whole) all))
