-- The jobs of a program that is certified alone, in a legal history: finished in time, and the open one less than a period old.
use Rattle.rt_laws.proofs.Common.{◌≡◌, ℕ, zero, suc, ◌+◌, ◌<◌, ◌≤◌, ◌&&◌, nat_le, nat_lt, Bool, true, false, List, [], ◌∷◌, ◌++◌, length, take, slice_get, All, Some, None, inl, inr, refl, sym, ap, subst, ◌∙◌, arith, cond_both, leb-false, ltb-false, and_from, All-nil, All-cons, Account, coming, wakes_fresh, refreshed, woken, spent, Fits, SetTask, TaskSet, Mode, Active, Asleep, Ended, Faulted, AttemptOutcome, Next, End, Write, WriteRefused, Sleep, Yield, Now, Reserve, ReserveRefused, Fault, IsAdmittedSet, Program, first_program, origin, Told, attempt_at, TaskFits, Serving, first_serving, due_in, due, mode_after, charged, after, own, granted_by, serving_after, task_state, legal, state_at, Job, ends_job, Release, release_of, account_after, is_fresh, job_of, jobs_after, jobs, release-slept, ticks-more, due_cases, state-of, attempted, open_after, open_job, first_jobs, outcome_of, GoesOn, Keeps, IsCertified, IsInTime}
use Rattle.std.proofs.Common.{slice_index_or}
use Rattle.std.specs.List.{list_all}
use Rattle.std.proofs.lemmas.List.Elements.{All-take}
use Rattle.rt_history.specs.Job.{response, is_hard, is_late, is_calm}
use Rattle.rt_history.proofs.JobLaws.{first-fresh, is_hard-from, calm-more}
use Rattle.rt_laws.proofs.Accounts.{spent_cases}
use Rattle.rt_laws.proofs.Totals.{Each-at}
use Rattle.rt_laws.proofs.Fitting.{each_fits}
use Rattle.rt_laws.proofs.OwnParts.{FitsAlong, fits_along}
use Rattle.rt_laws.proofs.OpenJobs.{its_budget, MayBeHard, IsServed, IsOpen, Opened, opened-first, served, opened-on, done-same, opened-done}
use Rattle.rt_laws.proofs.Periods.{next-slept}
use Rattle.rt_laws.proofs.Lateness.{none_late}
use Rattle.rt_laws.proofs.Isolation.{Follows, follows}
use Rattle.rt_laws.proofs.Attempts.{attempt-still}

-- ---- a server that nobody reserves a budget of

abbrev IsSteady : SetTask → Account → Type 0
IsSteady s a = (a.q ≡ s.budget) × (a.pending ≡ None)

coming-steady : (s : SetTask) (a : Account) → IsSteady s a → coming a ≡ s.budget
coming-steady s a steady = rw (steady.1) (steady.0)

steady-woken : (s : SetTask) (w : ℕ) (a : Account) → IsSteady s a → IsSteady s (woken w a)
steady-woken s w a steady =
    cond_both (wakes_fresh w a) (refreshed (coming a) w a) a (IsSteady s) (λ e. (coming-steady s a steady, refl)) (λ e. steady)

steady-due : (s : SetTask) (u : ℕ) (v : Serving) → IsSteady s v.account → IsSteady s (due u v).account
steady-due s u v steady =
    due_cases (λ (x : Serving). IsSteady s x.account) u v.mode v.account (λ w asleep come. steady-woken s w v.account steady) (λ stays. steady)

steady-spent : (s : SetTask) (a : Account) → IsSteady s a → IsSteady s (spent a)
steady-spent s a steady = spent_cases (IsSteady s) a (λ more. steady) (λ last. steady)

-- ---- how a task that keeps its plan stands

abbrev IsSound : Mode → Type 0
IsSound (Faulted fault) = ⊥
IsSound mode = Unit {0}

record Stands (s : SetTask) (before piece : List (ℕ × AttemptOutcome)) (v : Serving) : Type 0 where
  pub opened : Opened s before piece v
  pub steady : IsSteady s v.account
  pub fresh : is_fresh s (release_of s before) before ≡ true
  pub granted : its_budget s before ≡ s.budget
  pub calm : list_all is_calm piece ≡ true
  pub sound : IsSound v.mode

stands-first : (s : SetTask) → Stands s [] [] (first_serving s)
stands-first s = record {
  opened = opened-first s;
  steady = (refl, refl);
  fresh = first-fresh s;
  granted = cond_both (is_fresh s (release_of s []) []) (coming (account_after s [])) (account_after s []).q (λ n. n ≡ s.budget) (λ e. refl) (λ e. refl);
  calm = refl;
  sound = tt;
}

may_be_hard : (s : SetTask) (before piece : List (ℕ × AttemptOutcome)) (v : Serving) → Stands s before piece v → length piece + 1 ≤ s.budget → MayBeHard s before piece
may_be_hard s before piece v st few = record { fresh = st.fresh; calm = st.calm; few = omega (arith, few, st.granted) }

served-by : (s : SetTask) (before piece : List (ℕ × AttemptOutcome)) (u : ℕ) (v : Serving) → Stands s before piece v → length piece + 1 ≤ s.budget → (due u v).mode ≡ Active
    → IsServed s before piece (due u v).account
served-by s before piece u v st few active =
    served s before piece u v st.opened active (may_be_hard s before piece v st few)

-- ---- a record that leaves the job open

sound-active : (m : Mode) → m ≡ Active → IsSound m
sound-active m is = rw is tt

stands-on : (s : SetTask) (before piece : List (ℕ × AttemptOutcome)) (u : ℕ) (o : AttemptOutcome) (v : Serving) → Stands s before piece v → (due u v).mode ≡ Active
    → ends_job o ≡ false → is_calm (u, o) ≡ true → charged o (due u v).account ≡ spent (due u v).account → mode_after u o ≡ Active
    → Stands s before (piece ++ (u, o) ∷ []) (after u o (due u v).account)
stands-on s before piece u o v st active on calm spends mode = record {
  opened = opened-on s before piece (u, o) v st.opened active on;
  steady = subst (IsSteady s) (sym spends) (steady-spent s (due u v).account (steady-due s u v st.steady));
  fresh = st.fresh;
  granted = st.granted;
  calm = calm-more piece (u, o) ∙ and_from (list_all is_calm piece) (is_calm (u, o)) st.calm calm;
  sound = sound-active (mode_after u o) mode;
}

-- ---- a sleep that ends it

account-done : (s : SetTask) (before piece : List (ℕ × AttemptOutcome)) (e : ℕ × AttemptOutcome) (v : Serving) → Opened s before piece v
    → account_after s (before ++ (piece ++ e ∷ [])) ≡ charged e.1 (due e.0 v).account
account-done s before piece e v now = ap (λ (x : Serving). x.account) (sym (done-same s before piece e v now))

fresh-slept : (s : SetTask) (before piece : List (ℕ × AttemptOutcome)) (u w : ℕ) (v : Serving) → Opened s before piece v
    → MayBeHard s before piece → IsServed s before piece (due u v).account → Fits u (due u v).account → (release_of s before).tick + s.period ≤ w
    → is_fresh s (release_of s (before ++ (piece ++ (u, Sleep w) ∷ []))) (before ++ (piece ++ (u, Sleep w) ∷ [])) ≡ true
fresh-slept s before piece u w v now hard serves fit apart =
    ap (λ (r : Release). is_fresh s r (before ++ (piece ++ (u, Sleep w) ∷ []))) (release-slept s before piece u w)
    ∙ next-slept s before piece u w v now hard serves fit apart

sound-slept : (u w : ℕ) → IsSound (mode_after u (Sleep w))
sound-slept u w = cond_both (nat_le w u) Active (Asleep w) IsSound (λ e. tt) (λ e. tt)

stands-slept : (s : SetTask) (before piece : List (ℕ × AttemptOutcome)) (u w : ℕ) (v : Serving) → Stands s before piece v → length piece + 1 ≤ s.budget
    → (due u v).mode ≡ Active → Fits u (due u v).account → (release_of s before).tick + s.period ≤ w
    → Stands s (before ++ (piece ++ (u, Sleep w) ∷ [])) [] (after u (Sleep w) (due u v).account)
stands-slept s before piece u w v st few active fit apart =
    let done = before ++ (piece ++ (u, Sleep w) ∷ []) in
    let steady : IsSteady s (spent (due u v).account) = steady-spent s (due u v).account (steady-due s u v st.steady) in
    let left : IsSteady s (account_after s done) = subst (IsSteady s) (sym (account-done s before piece (u, Sleep w) v st.opened)) steady in
    record {
      opened = opened-done s before piece (u, Sleep w) v st.opened refl;
      steady = steady;
      fresh = fresh-slept s before piece u w v st.opened (may_be_hard s before piece v st few) (served-by s before piece u v st few active) fit apart;
      granted = cond_both (is_fresh s (release_of s done) done) (coming (account_after s done)) (account_after s done).q (λ n. n ≡ s.budget)
          (λ e. coming-steady s (account_after s done) left) (λ e. left.0);
      calm = refl;
      sound = sound-slept u w;
    }

-- ---- a job that is finished is hard

hard-done : (s : SetTask) (before piece : List (ℕ × AttemptOutcome)) (u : ℕ) (o : AttemptOutcome) (v : Serving) → Stands s before piece v → length piece + 1 ≤ s.budget
    → is_calm (u, o) ≡ true → is_hard (job_of s before (piece ++ (u, o) ∷ []) u) ≡ true
hard-done s before piece u o v st few calm =
    is_hard-from (job_of s before (piece ++ (u, o) ∷ []) u) st.fresh (calm-more piece (u, o) ∙ and_from (list_all is_calm piece) (is_calm (u, o)) st.calm calm)
    (omega (arith, few, st.granted, ticks-more piece (u, o)))

-- ---- the open job is in time

abbrev FitsThen : ℕ → Serving → Type 0
FitsThen t v = (due t v).mode ≡ Active → Fits t (due t v).account

in_time-at : (s : SetTask) (before piece : List (ℕ × AttemptOutcome)) (t : ℕ) (m : Mode) (a : Account) → IsOpen s before piece m a → IsSound m
    → ((due_in t m a).mode ≡ Active → t < (release_of s before).tick + s.period)
    → IsInTime s.period t (release_of s before).tick (due_in t m a).mode
in_time-at s before piece t Active a is sound awake = inr (awake refl)
in_time-at s before piece t (Asleep w) a is sound awake =
    cond_both (nat_le w t) (record { account = woken w a; mode = Active }) (record { account = a; mode = Asleep w })
    (λ (x : Serving). (x.mode ≡ Active → t < (release_of s before).tick + s.period) → IsInTime s.period t (release_of s before).tick x.mode)
    (λ past on. inr (on refl))
    (λ later on. let high = leb-false w t later in inr (omega (arith, high, is.1))) awake
in_time-at s before piece t Ended a is sound awake = inl refl
in_time-at s before piece t (Faulted fault) a is sound awake = absurd sound

open-in_time : (s : SetTask) (before piece : List (ℕ × AttemptOutcome)) (t : ℕ) (v : Serving) → Stands s before piece v → length piece + 1 ≤ s.budget → FitsThen t v
    → IsInTime s.period t (release_of s before).tick (due t v).mode
open-in_time s before piece t v st few fits =
    in_time-at s before piece t v.mode v.account st.opened.open_job st.sound
    (λ active.
    let serves = served-by s before piece t v st few active in
    let fit : Fits t (due t v).account = fits active in
    omega (arith, fit, serves.left, serves.deadline, few, st.granted))

-- ---- all that follows

record Kept (s : SetTask) (t n : ℕ) (before piece es : List (ℕ × AttemptOutcome)) (v : Serving) : Type 0 where
  pub hard : All (λ j. is_hard j ≡ true) (take n (jobs_after s before piece es))
  pub in_time : length (jobs_after s before piece es) < n → IsInTime s.period t (open_after s before piece es).release.tick (due t (serving_after v es)).mode

none-first : (js : List Job) → All (λ j. is_hard j ≡ true) (take zero js)
none-first js = All-nil (λ j. is_hard j ≡ true)

first-none : (n : ℕ) → All (λ j. is_hard j ≡ true) (take n [])
first-none zero = All-nil (λ j. is_hard j ≡ true)
first-none (suc n) = All-nil (λ j. is_hard j ≡ true)

kept-none : (s : SetTask) (t : ℕ) (before piece es : List (ℕ × AttemptOutcome)) (v : Serving) → Kept s t zero before piece es v
kept-none s t before piece es v = record { hard = none-first (jobs_after s before piece es); in_time = λ below. absurd (omega (arith, below)) }

-- what is left of a plan that k attempts more keep, at the records es
abbrev Later : SetTask → ℕ → List (ℕ × AttemptOutcome) → Type 0
Later s t es = (k n : ℕ) (p : Program) (before piece : List (ℕ × AttemptOutcome)) (v : Serving) → Stands s before piece v
    → Keeps s.budget s.period k n (release_of s before).tick (length piece) p → Follows p es → FitsAlong v es → FitsThen t (serving_after v es) → Kept s t n before piece es v

kept-on : (s : SetTask) (t k n : ℕ) (p : Program) (before piece : List (ℕ × AttemptOutcome)) (u : ℕ) (o : AttemptOutcome) (es : List (ℕ × AttemptOutcome)) (v : Serving)
    → Later s t es → Stands s before piece v → (due u v).mode ≡ Active
    → ends_job o ≡ false → is_calm (u, o) ≡ true → charged o (due u v).account ≡ spent (due u v).account → mode_after u o ≡ Active
    → Keeps s.budget s.period k (suc n) (release_of s before).tick (length piece + 1) p
    → Follows p es → FitsAlong (after u o (due u v).account) es → FitsThen t (serving_after (after u o (due u v).account) es)
    → Kept s t (suc n) before (piece ++ (u, o) ∷ []) es (after u o (due u v).account)
kept-on s t k n p before piece u o es v later st active on calm spends mode keeps along fit fits =
    later k (suc n) p before (piece ++ (u, o) ∷ []) (after u o (due u v).account) (stands-on s before piece u o v st active on calm spends mode)
    (subst (λ m. Keeps s.budget s.period k (suc n) (release_of s before).tick m p) (sym (ticks-more piece (u, o))) keeps) along fit fits

kept-slept : (s : SetTask) (t k n : ℕ) (p : Program) (before piece : List (ℕ × AttemptOutcome)) (u w : ℕ) (es : List (ℕ × AttemptOutcome)) (v : Serving)
    → Later s t es → Stands s before piece v → length piece + 1 ≤ s.budget → (due u v).mode ≡ Active → Fits u (due u v).account
    → (release_of s before).tick + s.period ≤ w → Keeps s.budget s.period k n w 0 p
    → Follows p es → FitsAlong (after u (Sleep w) (due u v).account) es → FitsThen t (serving_after (after u (Sleep w) (due u v).account) es)
    → Kept s t (suc n) before piece ((u, Sleep w) ∷ es) v
kept-slept s t k n p before piece u w es v later st few active fit apart keeps along fit_later fits =
    let done = before ++ (piece ++ (u, Sleep w) ∷ []) in
    let j = job_of s before (piece ++ (u, Sleep w) ∷ []) u in
    let rest = later k n p done [] (after u (Sleep w) (due u v).account) (stands-slept s before piece u w v st few active fit apart)
    (subst (λ (r : Release). Keeps s.budget s.period k n r.tick 0 p) (sym (release-slept s before piece u w)) keeps) along fit_later fits in
    record {
      hard = All-cons (λ x. is_hard x ≡ true) j (take n (jobs_after s done [] es)) (hard-done s before piece u (Sleep w) v st few refl) rest.hard;
      in_time = λ below. rest.in_time (omega (arith, below));
    }

-- a task that has ended has no record more
kept-ended : (s : SetTask) (t n : ℕ) (before piece : List (ℕ × AttemptOutcome)) (u : ℕ) (es : List (ℕ × AttemptOutcome)) (v : Serving)
    → Stands s before piece v → length piece + 1 ≤ s.budget → FitsAlong (after u End (due u v).account) es
    → Kept s t (suc n) before piece ((u, End) ∷ es) v
kept-ended s t n before piece u [] v st few along =
    let j = job_of s before (piece ++ (u, End) ∷ []) u in
    record {
      hard = All-cons (λ x. is_hard x ≡ true) j (take n []) (hard-done s before piece u End v st few refl) (first-none n);
      in_time = λ below. inl refl;
    }
kept-ended s t n before piece u (f ∷ fs) v st few along = let active = along.0 in absurd cc

kept-by : (s : SetTask) (t k n : ℕ) (p : Program) (before piece : List (ℕ × AttemptOutcome)) (u : ℕ) (o : AttemptOutcome) (es : List (ℕ × AttemptOutcome)) (v : Serving)
    → Later s t es → Stands s before piece v → length piece + 1 ≤ s.budget
    → GoesOn (Keeps s.budget s.period k (suc n) (release_of s before).tick (length piece + 1) p)
    (λ w. ((release_of s before).tick + s.period ≤ w) × Keeps s.budget s.period k n w 0 p) o
    → (due u v).mode ≡ Active → Fits u (due u v).account
    → Follows p es → FitsAlong (after u o (due u v).account) es → FitsThen t (serving_after (after u o (due u v).account) es)
    → Kept s t (suc n) before piece ((u, o) ∷ es) v
kept-by s t k n p before piece u Next es v later st few goes active fit along fit_later fits =
    let rest = kept-on s t k n p before piece u Next es v later st active refl refl refl refl goes along fit_later fits in
    record { hard = rest.hard; in_time = rest.in_time }
kept-by s t k n p before piece u (Write x) es v later st few goes active fit along fit_later fits =
    let rest = kept-on s t k n p before piece u (Write x) es v later st active refl refl refl refl goes along fit_later fits in
    record { hard = rest.hard; in_time = rest.in_time }
kept-by s t k n p before piece u WriteRefused es v later st few goes active fit along fit_later fits =
    let rest = kept-on s t k n p before piece u WriteRefused es v later st active refl refl refl refl goes along fit_later fits in
    record { hard = rest.hard; in_time = rest.in_time }
kept-by s t k n p before piece u (Sleep w) es v later st few goes active fit along fit_later fits =
    kept-slept s t k n p before piece u w es v later st few active fit goes.0 goes.1 along fit_later fits
kept-by s t k n p before piece u End es v later st few goes active fit along fit_later fits = kept-ended s t n before piece u es v st few fit_later
kept-by s t k n p before piece u Yield es v later st few goes active fit along fit_later fits = absurd goes
kept-by s t k n p before piece u (Now x) es v later st few goes active fit along fit_later fits = absurd goes
kept-by s t k n p before piece u (Reserve x) es v later st few goes active fit along fit_later fits = absurd goes
kept-by s t k n p before piece u ReserveRefused es v later st few goes active fit along fit_later fits = absurd goes
kept-by s t k n p before piece u (Fault fault) es v later st few goes active fit along fit_later fits = absurd goes

kept : (s : SetTask) (t : ℕ) (es : List (ℕ × AttemptOutcome)) → Later s t es
kept s t es k zero p before piece v st keeps along fit fits = kept-none s t before piece es v
kept s t es zero (suc n) p before piece v st keeps along fit fits = absurd keeps
kept s t [] (suc k) (suc n) p before piece v st keeps along fit fits =
    record { hard = first-none (suc n); in_time = λ below. open-in_time s before piece t v st keeps.0 fits }
kept s t (e ∷ es) (suc k) (suc n) p before piece v st keeps along fit fits =
    let open_keeps = Keeps s.budget s.period k (suc n) (release_of s before).tick (length piece + 1) (attempted [] p) in
    let still : attempt_at e.0 (granted_by e.1) p ≡ attempt_at 0 (λ q. false) p =
    attempt-still (Keeps s.budget s.period k (suc n) (release_of s before).tick (length piece + 1) (attempted [] p))
    (λ w. ((release_of s before).tick + s.period ≤ w) × Keeps s.budget s.period k n w 0 (attempted [] p)) e.0 (granted_by e.1) p keeps.1 in
    let outcome : outcome_of p ≡ e.1 = ap (λ (x : Told). x.outcome) (sym still) ∙ along.0 in
    kept-by s t k n (attempted [] p) before piece e.0 e.1 es v (kept s t es) st keeps.0
    (subst (GoesOn (Keeps s.budget s.period k (suc n) (release_of s before).tick (length piece + 1) (attempted [] p))
    (λ w. ((release_of s before).tick + s.period ≤ w) × Keeps s.budget s.period k n w 0 (attempted [] p))) outcome keeps.1)
    fit.0 fit.1 (subst (λ (x : Told). Follows x.program es) still along.1) fit.2 fits

-- ---- in a legal history

kept-in : (set : TaskSet) (t i n : ℕ) (s : SetTask) → IsAdmittedSet set → slice_get set.tasks i ≡ Some s → IsCertified (origin s) s.budget s.period s.start n
    → Kept s t n [] [] (own i (legal set t)) (first_serving s)
kept-in set t i n s ok there certified =
    let x = task_state t (legal set t) i s in
    kept s t (own i (legal set t)) certified.0 n (first_program s) [] [] (first_serving s) (stands-first s) certified.1 (follows set t i s there)
    (fits_along set t i s ok there) (Each-at (TaskFits t) (state_at set t).tasks i x (state-of set t i s there) (each_fits set t ok))

pub certified_hard : (set : TaskSet) (t i n : ℕ) (s : SetTask) → IsAdmittedSet set → slice_get set.tasks i ≡ Some s → IsCertified (origin s) s.budget s.period s.start n
    → All (λ j. is_hard j ≡ true) (first_jobs n set t i s)
certified_hard set t i n s ok there certified = let all = kept-in set t i n s ok there certified in all.hard

pub certified_open : (set : TaskSet) (t i n : ℕ) (s : SetTask) → IsAdmittedSet set → slice_get set.tasks i ≡ Some s → IsCertified (origin s) s.budget s.period s.start n
    → length (jobs s (own i (legal set t))) < n
    → IsInTime s.period t (open_job s (own i (legal set t))).release.tick (task_state t (legal set t) i s).serving.mode
certified_open set t i n s ok there certified = let all = kept-in set t i n s ok there certified in all.in_time

-- a hard job that isn't late
within-period : (period : ℕ) (j : Job) → is_hard j ≡ true → is_late period j ≡ false → response j ≤ period
within-period period j hard late =
    let high = ltb-false period (response j) (ap (λ (b : Bool). b && nat_lt period (response j)) (sym hard) ∙ late) in
    omega (arith, high)

pub certified_finished : (set : TaskSet) (t i n : ℕ) (s : SetTask) → IsAdmittedSet set → slice_get set.tasks i ≡ Some s → IsCertified (origin s) s.budget s.period s.start n
    → All (λ j. (is_hard j ≡ true) × (response j ≤ s.period)) (first_jobs n set t i s)
certified_finished set t i n s ok there certified =
    let hard = certified_hard set t i n s ok there certified in
    let late = All-take (λ j. is_late s.period j ≡ false) n (jobs s (own i (legal set t))) (none_late set t i s ok there) in
    λ k d below. (hard k d below, within-period s.period (slice_index_or (first_jobs n set t i s) k d) (hard k d below) (late k d below))
