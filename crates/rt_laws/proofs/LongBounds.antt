-- A job of a program that keeps to a server of its own is answered within as many periods as it takes budgets.
use Rattle.rt_laws.proofs.Common.{◌≡◌, ℕ, zero, suc, ◌+◌, ◌*◌, ◌<◌, ◌≤◌, List, [], ◌∷◌, ◌++◌, length, take, slice_get, All, Some, inl, inr, refl, sym, subst, arith, mul-le-mul_right, cases_lt, All-nil, All-cons, Account, spent, SetTask, TaskSet, AttemptOutcome, Next, End, Write, WriteRefused, Sleep, Yield, Now, Reserve, ReserveRefused, Fault, IsAdmittedSet, loaded, origin, Serving, first_serving, due, after, own, serving_after, task_state, legal, release_of, job_of, jobs_after, jobs, release-slept, ticks-more, eligible-task, open_after, open_job, first_jobs, GoesOn, IsInTime}
use Rattle.rt_laws.proofs.Accounts.{spent_cases}
use Rattle.rt_laws.proofs.OwnParts.{FitsAlong, fits_along}
use Rattle.rt_laws.specs.Long.{granted_at, KeepsLong, AreOnTime, IsWithin}
use Rattle.rt_laws.proofs.LongJobs.{long_on_time}

-- ---- the deadline after so many attempts of a job

-- after m attempts of a job that is released at r, the deadline is so many periods behind it, which have the budgets of these attempts
-- and of what is left
pub record Counts (q p r m : ℕ) (a : Account) : Type 0 where
  pub budget : a.q ≡ q
  pub period : a.p ≡ p
  pub times : ℕ
  pub deadline : a.d ≡ r + times * p
  pub left : times * q ≡ m + a.c
  pub some : 1 ≤ a.c
  pub within : a.c ≤ q

pub counts-first : (q p r : ℕ) → 1 ≤ q → Counts q p r 0 (granted_at q p r)
counts-first q p r some = record { budget = refl; period = refl; times = 1; deadline = omega arith; left = omega arith; some = some; within = omega arith }

pub counts-spent : (q p r m : ℕ) (a : Account) → Counts q p r m a → Counts q p r (m + 1) (spent a)
counts-spent q p r m a now =
    spent_cases (Counts q p r (m + 1)) a
    (λ more. record {
      budget = now.budget;
      period = now.period;
      times = now.times;
      deadline = now.deadline;
      left = omega (arith, now.left, more);
      some = omega (arith, more);
      within = omega (arith, now.within);
    })
    (λ last.
    let periods : suc now.times * p ≡ now.times * p + p = grind arith in
    let budgets : suc now.times * q ≡ now.times * q + q = grind arith in
    record {
      budget = now.budget;
      period = now.period;
      times = suc now.times;
      deadline = omega (arith, now.deadline, now.period, periods);
      left = omega (arith, now.left, last, now.some, now.budget, budgets);
      some = omega (arith, now.budget, now.some, now.within);
      within = omega (arith, now.budget);
    })

-- so it is at most k periods behind the release, where k budgets have more ticks than these attempts
pub deadline-within : (q p r m k : ℕ) (a : Account) → Counts q p r m a → m < k * q → a.d ≤ r + k * p
deadline-within q p r m k a now few =
    elim (cases_lt k now.times) [
      | inl beyond ↦
          let more : suc k * q ≤ now.times * q = mul-le-mul_right q beyond in
          let one : suc k * q ≡ k * q + q = grind arith in
          absurd (omega (arith, more, one, now.left, now.within, few))
      | inr most ↦
          let periods : now.times * p ≤ k * p = mul-le-mul_right p most in
          omega (arith, periods, now.deadline)
    ]

-- ---- along the records

-- where these records are on time, the jobs that they finish are answered in time, and the open one is in time
record Bounded (s : SetTask) (t n : ℕ) (before piece es : List (ℕ × AttemptOutcome)) (v : Serving) : Type 0 where
  pub finished : All (IsWithin s.budget s.period) (take n (jobs_after s before piece es))
  pub in_time : (k : ℕ) → length (jobs_after s before piece es) < n → (open_after s before piece es).ticks < k * s.budget
      → IsInTime (k * s.period) t (open_after s before piece es).release.tick (due t (serving_after v es)).mode

none-first : (s : SetTask) (n : ℕ) → All (IsWithin s.budget s.period) (take n [])
none-first s zero = All-nil (IsWithin s.budget s.period)
none-first s (suc n) = All-nil (IsWithin s.budget s.period)

-- what follows, at the records es, of an open job whose attempts are paid from a
abbrev Later : SetTask → ℕ → List (ℕ × AttemptOutcome) → Type 0
Later s t es = (n : ℕ) (a : Account) (before piece : List (ℕ × AttemptOutcome)) (v : Serving)
    → Counts s.budget s.period (release_of s before).tick (length piece) a → AreOnTime t n a es → FitsAlong v es → Bounded s t n before piece es v

within-done : (s : SetTask) (before piece : List (ℕ × AttemptOutcome)) (u : ℕ) (o : AttemptOutcome) (a : Account)
    → Counts s.budget s.period (release_of s before).tick (length piece) a → u < a.d → IsWithin s.budget s.period (job_of s before (piece ++ (u, o) ∷ []) u)
within-done s before piece u o a now soon = λ k few.
    let bound : a.d ≤ (release_of s before).tick + k * s.period =
    deadline-within s.budget s.period (release_of s before).tick (length piece) k a now (omega (arith, few, ticks-more piece (u, o))) in
    omega (arith, bound, soon)

bounded-on : (s : SetTask) (t n : ℕ) (a : Account) (before piece : List (ℕ × AttemptOutcome)) (u : ℕ) (o : AttemptOutcome) (es : List (ℕ × AttemptOutcome)) (v : Serving)
    → Later s t es → Counts s.budget s.period (release_of s before).tick (length piece) a → AreOnTime t (suc n) (spent a) es
    → FitsAlong (after u o (due u v).account) es → Bounded s t (suc n) before (piece ++ (u, o) ∷ []) es (after u o (due u v).account)
bounded-on s t n a before piece u o es v later now on fit =
    later (suc n) (spent a) before (piece ++ (u, o) ∷ []) (after u o (due u v).account)
    (subst (λ m. Counts s.budget s.period (release_of s before).tick m (spent a)) (sym (ticks-more piece (u, o)))
    (counts-spent s.budget s.period (release_of s before).tick (length piece) a now)) on fit

bounded-slept : (s : SetTask) (t n : ℕ) (a : Account) (before piece : List (ℕ × AttemptOutcome)) (u w : ℕ) (es : List (ℕ × AttemptOutcome)) (v : Serving)
    → 1 ≤ s.budget → Later s t es → Counts s.budget s.period (release_of s before).tick (length piece) a → u < a.d → AreOnTime t n (granted_at a.q a.p w) es
    → FitsAlong (after u (Sleep w) (due u v).account) es → Bounded s t (suc n) before piece ((u, Sleep w) ∷ es) v
bounded-slept s t n a before piece u w es v some later now soon on fit =
    let done = before ++ (piece ++ (u, Sleep w) ∷ []) in
    let j = job_of s before (piece ++ (u, Sleep w) ∷ []) u in
    let first : Counts s.budget s.period (release_of s done).tick 0 (granted_at a.q a.p w) =
    rw (release-slept s before piece u w, now.budget, now.period) (counts-first s.budget s.period w some) in
    let rest = later n (granted_at a.q a.p w) done [] (after u (Sleep w) (due u v).account) first on fit in
    record {
      finished = All-cons (IsWithin s.budget s.period) j (take n (jobs_after s done [] es)) (within-done s before piece u (Sleep w) a now soon) rest.finished;
      in_time = λ k below few. rest.in_time k (omega (arith, below)) few;
    }

-- a task that has ended has no record more
bounded-ended : (s : SetTask) (t n : ℕ) (a : Account) (before piece : List (ℕ × AttemptOutcome)) (u : ℕ) (es : List (ℕ × AttemptOutcome)) (v : Serving)
    → Counts s.budget s.period (release_of s before).tick (length piece) a → u < a.d
    → FitsAlong (after u End (due u v).account) es → Bounded s t (suc n) before piece ((u, End) ∷ es) v
bounded-ended s t n a before piece u [] v now soon fit =
    let j = job_of s before (piece ++ (u, End) ∷ []) u in
    record {
      finished = All-cons (IsWithin s.budget s.period) j (take n []) (within-done s before piece u End a now soon) (none-first s n);
      in_time = λ k below few. inl refl;
    }
bounded-ended s t n a before piece u (f ∷ fs) v now soon fit = let active = fit.0 in absurd cc

bounded-by : (s : SetTask) (t n : ℕ) (a : Account) (before piece : List (ℕ × AttemptOutcome)) (u : ℕ) (o : AttemptOutcome) (es : List (ℕ × AttemptOutcome)) (v : Serving)
    → 1 ≤ s.budget → Later s t es → Counts s.budget s.period (release_of s before).tick (length piece) a → u < a.d
    → GoesOn (AreOnTime t (suc n) (spent a) es) (λ w. AreOnTime t n (granted_at a.q a.p w) es) o
    → FitsAlong (after u o (due u v).account) es → Bounded s t (suc n) before piece ((u, o) ∷ es) v
bounded-by s t n a before piece u Next es v some later now soon goes fit =
    let rest = bounded-on s t n a before piece u Next es v later now goes fit in record { finished = rest.finished; in_time = rest.in_time }
bounded-by s t n a before piece u (Write x) es v some later now soon goes fit =
    let rest = bounded-on s t n a before piece u (Write x) es v later now goes fit in record { finished = rest.finished; in_time = rest.in_time }
bounded-by s t n a before piece u WriteRefused es v some later now soon goes fit =
    let rest = bounded-on s t n a before piece u WriteRefused es v later now goes fit in record { finished = rest.finished; in_time = rest.in_time }
bounded-by s t n a before piece u (Sleep w) es v some later now soon goes fit = bounded-slept s t n a before piece u w es v some later now soon goes fit
bounded-by s t n a before piece u End es v some later now soon goes fit = bounded-ended s t n a before piece u es v now soon fit
bounded-by s t n a before piece u Yield es v some later now soon goes fit = absurd goes
bounded-by s t n a before piece u (Now x) es v some later now soon goes fit = absurd goes
bounded-by s t n a before piece u (Reserve x) es v some later now soon goes fit = absurd goes
bounded-by s t n a before piece u ReserveRefused es v some later now soon goes fit = absurd goes
bounded-by s t n a before piece u (Fault fault) es v some later now soon goes fit = absurd goes

bounded : (s : SetTask) (t : ℕ) (es : List (ℕ × AttemptOutcome)) → 1 ≤ s.budget → Later s t es
bounded s t es some zero a before piece v now on fit =
    record { finished = All-nil (IsWithin s.budget s.period); in_time = λ k below few. absurd (omega (arith, below)) }
bounded s t [] some (suc n) a before piece v now on fit = record {
  finished = none-first s (suc n);
  in_time = λ k below few.
      let bound = deadline-within s.budget s.period (release_of s before).tick (length piece) k a now few in
      inr (omega (arith, bound, on));
}
bounded s t (e ∷ es) some (suc n) a before piece v now on fit = bounded-by s t n a before piece e.0 e.1 es v some (bounded s t es some) now on.0 on.1 fit.2

-- ---- in a legal history

bounded-in : (set : TaskSet) (t i n k : ℕ) (s : SetTask) → IsAdmittedSet set → slice_get set.tasks i ≡ Some s
    → KeepsLong k n (granted_at s.budget s.period s.start) (loaded (origin s)) → Bounded s t n [] [] (own i (legal set t)) (first_serving s)
bounded-in set t i n k s ok there keeps =
    let task = eligible-task set i s ok there in
    bounded s t (own i (legal set t)) task.budgeted n (granted_at s.budget s.period s.start) [] [] (first_serving s)
    (counts-first s.budget s.period s.start task.budgeted) (long_on_time set t i n k s ok there keeps) (fits_along set t i s ok there)

pub long_within : (set : TaskSet) (t i n k : ℕ) (s : SetTask) → IsAdmittedSet set → slice_get set.tasks i ≡ Some s
    → KeepsLong k n (granted_at s.budget s.period s.start) (loaded (origin s)) → All (IsWithin s.budget s.period) (first_jobs n set t i s)
long_within set t i n k s ok there keeps = let all = bounded-in set t i n k s ok there keeps in all.finished

pub long_open : (set : TaskSet) (t i n j k : ℕ) (s : SetTask) → IsAdmittedSet set → slice_get set.tasks i ≡ Some s
    → KeepsLong j n (granted_at s.budget s.period s.start) (loaded (origin s)) → length (jobs s (own i (legal set t))) < n
    → (open_job s (own i (legal set t))).ticks < k * s.budget
    → IsInTime (k * s.period) t (open_job s (own i (legal set t))).release.tick (task_state t (legal set t) i s).serving.mode
long_open set t i n j k s ok there keeps below few = let all = bounded-in set t i n j s ok there keeps in all.in_time k below few
