-- Certificates for jobs of several periods: with one they are certificates, and a program that has one keeps to a server of its own.
use Rattle.rt_laws.proofs.Common.{◌≡◌, ℕ, zero, suc, ◌+◌, ◌*◌, ◌<◌, ◌≤◌, false, List, [], ◌∷◌, ◌++◌, length, slice_get, All, Some, ◌⊎◌, inl, inr, refl, sym, ap, subst, ◌∙◌, arith, mul-le-mul_left, Account, spent, SetTask, TaskSet, Ended, AttemptOutcome, Next, End, Write, WriteRefused, Sleep, Yield, Now, Reserve, ReserveRefused, Fault, IsAdmittedSet, Program, Origin, loaded, first_program, origin, Told, attempt_at, Serving, first_serving, due, after, own, granted_by, serving_after, task_state, legal, Release, release_of, jobs_after, jobs, release-slept, ticks-more, attempted, open_after, open_job, first_jobs, outcome_of, GoesOn, Keeps, IsCertified, IsInTime}
use Rattle.std.proofs.Common.{◌↔◌}
use Rattle.std.proofs.lemmas.Nat.{mul-le}
use Rattle.rt_laws.specs.Long.{granted_at, KeepsLong, IsWithin}
use Rattle.rt_laws.specs.SeveralPeriods.{MaySleep, KeepsIn, IsCertifiedIn}
use Rattle.rt_laws.proofs.Attempts.{attempt-still}
use Rattle.rt_laws.proofs.OwnParts.{FitsAlong, fits_along}
use Rattle.rt_laws.proofs.Isolation.{Follows, follows}
use Rattle.rt_laws.proofs.Seen.{goes-map}
use Rattle.rt_laws.proofs.LongBounds.{Counts, counts-first, counts-spent, deadline-within, long_within, long_open}

-- ---- one period

pub one-sleep : (q p r m w : ℕ) → r + p ≤ w → m ≤ q → MaySleep q p r m w
one-sleep q p r m w far few = (1, omega (arith, few), omega (arith, far))

pub sleep-one : (q p r m w : ℕ) → MaySleep q p r (m + 1) w → r + p ≤ w
sleep-one q p r m w (zero, few, far) = absurd (omega (arith, few))
sleep-one q p r m w (suc k, few, far) =
    let more : suc k * p ≡ k * p + p = grind arith in
    omega (arith, far, more)

keeps-one : (q p k n r m : ℕ) (x : Program) → Keeps q p k n r m x → KeepsIn 1 q p k n r m x
keeps-one q p k zero r m x keeps = tt
keeps-one q p zero (suc n) r m x keeps = absurd keeps
keeps-one q p (suc k) (suc n) r m x keeps = (
  omega (arith, keeps.0),
  goes-map (Keeps q p k (suc n) r (m + 1) (attempted [] x)) (KeepsIn 1 q p k (suc n) r (m + 1) (attempted [] x))
      (λ w. (r + p ≤ w) × Keeps q p k n w 0 (attempted [] x)) (λ w. MaySleep q p r (m + 1) w × KeepsIn 1 q p k n w 0 (attempted [] x)) (outcome_of x)
      (keeps-one q p k (suc n) r (m + 1) (attempted [] x))
      (λ w slept. (one-sleep q p r (m + 1) w slept.0 keeps.0, keeps-one q p k n w 0 (attempted [] x) slept.1)) keeps.1,
)

one-keeps : (q p k n r m : ℕ) (x : Program) → KeepsIn 1 q p k n r m x → Keeps q p k n r m x
one-keeps q p k zero r m x keeps = tt
one-keeps q p zero (suc n) r m x keeps = absurd keeps
one-keeps q p (suc k) (suc n) r m x keeps = (
  omega (arith, keeps.0),
  goes-map (KeepsIn 1 q p k (suc n) r (m + 1) (attempted [] x)) (Keeps q p k (suc n) r (m + 1) (attempted [] x))
      (λ w. MaySleep q p r (m + 1) w × KeepsIn 1 q p k n w 0 (attempted [] x)) (λ w. (r + p ≤ w) × Keeps q p k n w 0 (attempted [] x)) (outcome_of x)
      (one-keeps q p k (suc n) r (m + 1) (attempted [] x))
      (λ w slept. (sleep-one q p r m w slept.0, one-keeps q p k n w 0 (attempted [] x) slept.1)) keeps.1,
)

pub one_period : (o : Origin) (budget period start n : ℕ) → IsCertified o budget period start n ↔ IsCertifiedIn o 1 budget period start n
one_period o q p start n = (
  λ certified. (certified.0, keeps-one q p certified.0 n start 0 (loaded o) certified.1),
  λ certified. (certified.0, one-keeps q p certified.0 n start 0 (loaded o) certified.1),
)

-- ---- a weaker certificate

sleeps-weaker : (q p b d r v m w : ℕ) → q ≤ b → d ≤ p → v ≤ r → MaySleep q p r m w → MaySleep b d v m w
sleeps-weaker q p b d r v m w more less early may =
    let budgets : may.0 * q ≤ may.0 * b = mul-le-mul_left may.0 more in
    let periods : may.0 * d ≤ may.0 * p = mul-le-mul_left may.0 less in
    (may.0, omega (arith, may.1, budgets), omega (arith, may.2, periods, early))

keeps-weaker : (ks q p js b d k n l r v m : ℕ) (x : Program) → ks ≤ js → q ≤ b → d ≤ p → v ≤ r → l ≤ n → KeepsIn ks q p k n r m x → KeepsIn js b d k l v m x
keeps-weaker ks q p js b d k n zero r v m x longer more less early fewer keeps = tt
keeps-weaker ks q p js b d k zero (suc l) r v m x longer more less early fewer keeps = absurd (omega (arith, fewer))
keeps-weaker ks q p js b d zero (suc n) (suc l) r v m x longer more less early fewer keeps = absurd keeps
keeps-weaker ks q p js b d (suc k) (suc n) (suc l) r v m x longer more less early fewer keeps = (
  omega (arith, keeps.0, mul-le ks q js b longer more),
  goes-map (KeepsIn ks q p k (suc n) r (m + 1) (attempted [] x)) (KeepsIn js b d k (suc l) v (m + 1) (attempted [] x))
      (λ w. MaySleep q p r (m + 1) w × KeepsIn ks q p k n w 0 (attempted [] x))
      (λ w. MaySleep b d v (m + 1) w × KeepsIn js b d k l w 0 (attempted [] x)) (outcome_of x)
      (keeps-weaker ks q p js b d k (suc n) (suc l) r v (m + 1) (attempted [] x) longer more less early fewer)
      (λ w slept. (
        sleeps-weaker q p b d r v (m + 1) w more less early slept.0,
        keeps-weaker ks q p js b d k n l w w 0 (attempted [] x) longer more less (omega arith) (omega (arith, fewer)) slept.1,
      ))
      keeps.1,
)

pub several-weaker : (o : Origin) (k q p s n j b d v l : ℕ) → k ≤ j → q ≤ b → d ≤ p → v ≤ s → l ≤ n → IsCertifiedIn o k q p s n → IsCertifiedIn o j b d v l
several-weaker o k q p s n j b d v l longer more less early fewer certified =
    (certified.0, keeps-weaker k q p j b d certified.0 n l s v 0 (loaded o) longer more less early fewer certified.1)

-- ---- a server of its own

keeps-long : (periods q p k n r m : ℕ) (a : Account) (x : Program) → Counts q p r m a → KeepsIn periods q p k n r m x → KeepsLong k n a x
keeps-long periods q p k zero r m a x now keeps = tt
keeps-long periods q p zero (suc n) r m a x now keeps = absurd keeps
keeps-long periods q p (suc k) (suc n) r m a x now keeps =
    goes-map (KeepsIn periods q p k (suc n) r (m + 1) (attempted [] x)) (KeepsLong k (suc n) (spent a) (attempted [] x))
    (λ w. MaySleep q p r (m + 1) w × KeepsIn periods q p k n w 0 (attempted [] x))
    (λ w. (a.d ≤ w) × KeepsLong k n (granted_at a.q a.p w) (attempted [] x)) (outcome_of x)
    (keeps-long periods q p k (suc n) r (m + 1) (spent a) (attempted [] x) (counts-spent q p r m a now))
    (λ w slept.
    let bound = deadline-within q p r m slept.0.0 a now (omega (arith, slept.0.1)) in
    let first : Counts q p w 0 (granted_at a.q a.p w) = rw (now.budget, now.period) (counts-first q p w (omega (arith, now.some, now.within))) in
    (omega (arith, bound, slept.0.2), keeps-long periods q p k n w 0 (granted_at a.q a.p w) (attempted [] x) first slept.1))
    keeps.1

-- a budget of which some number has a tick isn't 0
some-budget : (periods q m : ℕ) → m + 1 ≤ periods * q → 1 ≤ q
some-budget periods zero m few = let none : periods * 0 ≡ 0 = grind arith in absurd (omega (arith, few, none))
some-budget periods (suc q) m few = omega arith

pub several_long : (o : Origin) (periods budget period start n : ℕ) → IsCertifiedIn o periods budget period start n
    → (k : ℕ) × KeepsLong k n (granted_at budget period start) (loaded o)
several_long o periods q p start zero certified = (0, tt)
several_long o periods q p start (suc n) (zero, keeps) = absurd keeps
several_long o periods q p start (suc n) (suc k, keeps) =
    (suc k, keeps-long periods q p (suc k) (suc n) start 0 (granted_at q p start) (loaded o) (counts-first q p start (some-budget periods q 0 keeps.0)) keeps)

pub several_within : (set : TaskSet) (t i n periods : ℕ) (s : SetTask) → IsAdmittedSet set → slice_get set.tasks i ≡ Some s
    → IsCertifiedIn (origin s) periods s.budget s.period s.start n → All (IsWithin s.budget s.period) (first_jobs n set t i s)
several_within set t i n periods s ok there certified =
    let long = several_long (origin s) periods s.budget s.period s.start n certified in
    long_within set t i n long.0 s ok there long.1

-- ---- the open job

-- after the records es the program has ended, or the open job has fewer attempts than these budgets have ticks
abbrev Few : SetTask → ℕ → ℕ → List (ℕ × AttemptOutcome) → List (ℕ × AttemptOutcome) → List (ℕ × AttemptOutcome) → Serving → Type 0
Few s periods t before piece es v = ((open_after s before piece es).ticks < periods * s.budget) ⊎ ((due t (serving_after v es)).mode ≡ Ended)

abbrev Later : SetTask → ℕ → ℕ → List (ℕ × AttemptOutcome) → Type 0
Later s periods t es = (k n : ℕ) (x : Program) (before piece : List (ℕ × AttemptOutcome)) (v : Serving)
    → KeepsIn periods s.budget s.period k n (release_of s before).tick (length piece) x → Follows x es → FitsAlong v es
    → length (jobs_after s before piece es) < n → Few s periods t before piece es v

few-on : (s : SetTask) (periods t k n : ℕ) (x : Program) (before piece : List (ℕ × AttemptOutcome)) (e : ℕ × AttemptOutcome) (es : List (ℕ × AttemptOutcome)) (v : Serving)
    → Later s periods t es → KeepsIn periods s.budget s.period k (suc n) (release_of s before).tick (length piece + 1) x → Follows x es → FitsAlong v es
    → length (jobs_after s before (piece ++ e ∷ []) es) < suc n → Few s periods t before (piece ++ e ∷ []) es v
few-on s periods t k n x before piece e es v later keeps along fit below =
    later k (suc n) x before (piece ++ e ∷ []) v
    (subst (λ m. KeepsIn periods s.budget s.period k (suc n) (release_of s before).tick m x) (sym (ticks-more piece e)) keeps) along fit below

few-slept : (s : SetTask) (periods t k n : ℕ) (x : Program) (before piece : List (ℕ × AttemptOutcome)) (u w : ℕ) (es : List (ℕ × AttemptOutcome)) (v : Serving)
    → Later s periods t es → KeepsIn periods s.budget s.period k n w 0 x → Follows x es → FitsAlong (after u (Sleep w) (due u v).account) es
    → length (jobs_after s before piece ((u, Sleep w) ∷ es)) < suc n → Few s periods t before piece ((u, Sleep w) ∷ es) v
few-slept s periods t k n x before piece u w es v later keeps along fit below =
    let done = before ++ (piece ++ (u, Sleep w) ∷ []) in
    let here : (release_of s done).tick ≡ w = ap (λ (r : Release). r.tick) (release-slept s before piece u w) in
    later k n x done [] (after u (Sleep w) (due u v).account)
    (subst (λ r. KeepsIn periods s.budget s.period k n r 0 x) (sym here) keeps) along fit (omega (arith, below))

few-ended : (s : SetTask) (periods t : ℕ) (before piece : List (ℕ × AttemptOutcome)) (u : ℕ) (es : List (ℕ × AttemptOutcome)) (v : Serving)
    → FitsAlong (after u End (due u v).account) es → Few s periods t before piece ((u, End) ∷ es) v
few-ended s periods t before piece u [] v fit = inr refl
few-ended s periods t before piece u (f ∷ fs) v fit = let active = fit.0 in absurd cc

few-by : (s : SetTask) (periods t k n : ℕ) (x : Program) (before piece : List (ℕ × AttemptOutcome)) (u : ℕ) (o : AttemptOutcome) (es : List (ℕ × AttemptOutcome)) (v : Serving)
    → Later s periods t es
    → GoesOn (KeepsIn periods s.budget s.period k (suc n) (release_of s before).tick (length piece + 1) x)
    (λ w. MaySleep s.budget s.period (release_of s before).tick (length piece + 1) w × KeepsIn periods s.budget s.period k n w 0 x) o
    → Follows x es → FitsAlong (after u o (due u v).account) es → length (jobs_after s before piece ((u, o) ∷ es)) < suc n
    → Few s periods t before piece ((u, o) ∷ es) v
few-by s periods t k n x before piece u Next es v later goes along fit below = few-on s periods t k n x before piece (u, Next) es (after u Next (due u v).account) later goes along fit below
few-by s periods t k n x before piece u (Write b) es v later goes along fit below = few-on s periods t k n x before piece (u, Write b) es (after u (Write b) (due u v).account) later goes along fit below
few-by s periods t k n x before piece u WriteRefused es v later goes along fit below = few-on s periods t k n x before piece (u, WriteRefused) es (after u WriteRefused (due u v).account) later goes along fit below
few-by s periods t k n x before piece u (Sleep w) es v later goes along fit below = few-slept s periods t k n x before piece u w es v later goes.1 along fit below
few-by s periods t k n x before piece u End es v later goes along fit below = few-ended s periods t before piece u es v fit
few-by s periods t k n x before piece u Yield es v later goes along fit below = absurd goes
few-by s periods t k n x before piece u (Now b) es v later goes along fit below = absurd goes
few-by s periods t k n x before piece u (Reserve b) es v later goes along fit below = absurd goes
few-by s periods t k n x before piece u ReserveRefused es v later goes along fit below = absurd goes
few-by s periods t k n x before piece u (Fault fault) es v later goes along fit below = absurd goes

few : (s : SetTask) (periods t : ℕ) (es : List (ℕ × AttemptOutcome)) → Later s periods t es
few s periods t es k zero x before piece v keeps along fit below = absurd (omega (arith, below))
few s periods t es zero (suc n) x before piece v keeps along fit below = absurd keeps
few s periods t [] (suc k) (suc n) x before piece v keeps along fit below = inl (omega (arith, keeps.0))
few s periods t (e ∷ es) (suc k) (suc n) x before piece v keeps along fit below =
    let r = (release_of s before).tick in
    let m = length piece + 1 in
    let y : Program = attempted [] x in
    let still : attempt_at e.0 (granted_by e.1) x ≡ attempt_at 0 (λ b. false) x =
    attempt-still (KeepsIn periods s.budget s.period k (suc n) r m y) (λ w. MaySleep s.budget s.period r m w × KeepsIn periods s.budget s.period k n w 0 y)
    e.0 (granted_by e.1) x keeps.1 in
    let outcome : outcome_of x ≡ e.1 = ap (λ (z : Told). z.outcome) (sym still) ∙ along.0 in
    few-by s periods t k n y before piece e.0 e.1 es v (few s periods t es)
    (subst (GoesOn (KeepsIn periods s.budget s.period k (suc n) r m y) (λ w. MaySleep s.budget s.period r m w × KeepsIn periods s.budget s.period k n w 0 y)) outcome keeps.1)
    (subst (λ (z : Told). Follows z.program es) still along.1) fit.2 below

pub several_open : (set : TaskSet) (t i n periods : ℕ) (s : SetTask) → IsAdmittedSet set → slice_get set.tasks i ≡ Some s
    → IsCertifiedIn (origin s) periods s.budget s.period s.start n → length (jobs s (own i (legal set t))) < n
    → IsInTime (periods * s.period) t (open_job s (own i (legal set t))).release.tick (task_state t (legal set t) i s).serving.mode
several_open set t i n periods s ok there certified below =
    let long = several_long (origin s) periods s.budget s.period s.start n certified in
    elim (few s periods t (own i (legal set t)) certified.0 n (first_program s) [] [] (first_serving s) certified.1 (follows set t i s there) (fits_along set t i s ok there) below) [
      | inl less ↦ long_open set t i n long.0 periods s ok there long.1 below less
      | inr ended ↦ inl ended
    ]
