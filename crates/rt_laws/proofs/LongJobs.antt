-- Each attempt of a program that keeps to a server of its own is made before its deadline, in every admitted set.
use Rattle.rt_laws.proofs.Common.{◌≡◌, ℕ, zero, suc, ◌+◌, ◌*◌, ◌<◌, ◌≤◌, nat_le, false, List, [], ◌∷◌, slice_get, Some, None, refl, sym, ap, subst, ◌∙◌, arith, cond_both, cond-true, le-leb, leb-true, leb-false, Account, coming, wakes_fresh, refreshed, woken, spent, Fits, SetTask, TaskSet, Mode, Active, Asleep, Ended, Faulted, AttemptOutcome, Next, End, Write, WriteRefused, Sleep, Yield, Now, Reserve, ReserveRefused, Fault, IsAdmittedSet, Program, loaded, first_program, origin, Told, attempt_at, TaskFits, Serving, first_serving, due_in, due, mode_after, charged, after, own, granted_by, serving_after, task_state, legal, state_at, state-of, eligible-task, attempted, outcome_of, GoesOn}
use Rattle.rt_server.specs.Account.{begun}
use Rattle.rt_laws.proofs.Accounts.{spent_cases}
use Rattle.rt_laws.proofs.Totals.{Each-at}
use Rattle.rt_laws.proofs.Fitting.{each_fits}
use Rattle.rt_laws.proofs.OwnParts.{FitsAlong, fits_along}
use Rattle.rt_laws.proofs.Periods.{spent-fresh}
use Rattle.rt_laws.proofs.Isolation.{Follows, follows}
use Rattle.rt_laws.specs.Long.{granted_at, KeepsLong, AreOnTime}
use Rattle.rt_laws.proofs.Attempts.{attempt-still}

-- ---- an account with no budget pending

record IsPlain (a : Account) : Type 0 where
  pub some : 1 ≤ a.c
  pub budget : 1 ≤ a.q
  pub none : a.pending ≡ None

plain-spent : (a : Account) → IsPlain a → IsPlain (spent a)
plain-spent a is =
    spent_cases IsPlain a (λ more. record { some = omega (arith, more); budget = is.budget; none = is.none })
    (λ last. record { some = is.budget; budget = is.budget; none = is.none })

plain-granted : (q p r : ℕ) → 1 ≤ q → IsPlain (granted_at q p r)
plain-granted q p r some = record { some = some; budget = some; none = refl }

spent-q : (a : Account) → (spent a).q ≡ a.q
spent-q a = spent_cases (λ b. b.q ≡ a.q) a (λ more. refl) (λ last. refl)

spent-p : (a : Account) → (spent a).p ≡ a.p
spent-p a = spent_cases (λ b. b.p ≡ a.p) a (λ more. refl) (λ last. refl)

spent-none : (a : Account) → (spent a).pending ≡ a.pending
spent-none a = spent_cases (λ b. b.pending ≡ a.pending) a (λ more. refl) (λ last. refl)

refreshed-is : (w : ℕ) (b : Account) → b.pending ≡ None → refreshed (coming b) w b ≡ granted_at b.q b.p w
refreshed-is w b none = rw none refl

woken-spent : (w : ℕ) (a : Account) → IsPlain a → a.d ≤ w → woken w (spent a) ≡ granted_at a.q a.p w
woken-spent w a is past =
    cond-true (wakes_fresh w (spent a)) (refreshed (coming (spent a)) w (spent a)) (spent a) (spent-fresh w a past)
    ∙ refreshed-is w (spent a) (spent-none a ∙ is.none)
    ∙ ap (λ q. granted_at q (spent a).p w) (spent-q a) ∙ ap (λ p. granted_at a.q p w) (spent-p a)

woken-first : (q p r : ℕ) → woken r (begun q p) ≡ granted_at q p r
woken-first q p r = cond-true (wakes_fresh r (begun q p)) (refreshed (coming (begun q p)) r (begun q p)) (begun q p) (le-leb (0 * q) (0 * p + r * q) (omega arith))

-- ---- the server of the task is the one that it has alone

abbrev IsAs : Account → Mode → Account → Type 0
IsAs a Active b = b ≡ a
IsAs a (Asleep w) b = (woken w b ≡ a) × (w ≤ a.d)
IsAs a Ended b = ⊥
IsAs a (Faulted fault) b = ⊥

as-due : (a : Account) (t : ℕ) (m : Mode) (b : Account) → IsAs a m b → (due_in t m b).mode ≡ Active → (due_in t m b).account ≡ a
as-due a t Active b is active = is
as-due a t (Asleep w) b is active =
    cond_both (nat_le w t) (record { account = woken w b; mode = Active }) (record { account = b; mode = Asleep w })
    (λ (x : Serving). x.mode ≡ Active → x.account ≡ a) (λ past on. is.0) (λ later on. absurd cc) active
as-due a t Ended b is active = absurd is
as-due a t (Faulted fault) b is active = absurd is

next-due : (a : Account) (t : ℕ) (m : Mode) (b : Account) → IsPlain a → 1 ≤ a.p → IsAs a m b
    → ((due_in t m b).mode ≡ Active → Fits t (due_in t m b).account) → t < a.d
next-due a t Active b plain positive is fits = let fit : Fits t b = fits refl in omega (arith, fit, plain.some, ap (λ (x : Account). x.c) is, ap (λ (x : Account). x.d) is)
next-due a t (Asleep w) b plain positive is fits =
    cond_both (nat_le w t) (record { account = woken w b; mode = Active }) (record { account = b; mode = Asleep w })
    (λ (x : Serving). (x.mode ≡ Active → Fits t x.account) → t < a.d)
    (λ past on.
    let fit : Fits t (woken w b) = on refl in
    omega (arith, fit, plain.some, ap (λ (x : Account). x.c) is.0, ap (λ (x : Account). x.d) is.0))
    (λ later on. let high = leb-false w t later in omega (arith, high, is.1)) fits
next-due a t Ended b plain positive is fits = absurd is
next-due a t (Faulted fault) b plain positive is fits = absurd is

as-slept : (a b : Account) (u w : ℕ) → b ≡ a → IsPlain a → Fits u b → a.d ≤ w → IsAs (granted_at a.q a.p w) (mode_after u (Sleep w)) (spent b)
as-slept a b u w same plain fit past =
    cond_both (nat_le w u) Active (Asleep w) (λ m. IsAs (granted_at a.q a.p w) m (spent b))
    (λ e. let low = leb-true w u e in absurd (omega (arith, low, fit, past, plain.some, ap (λ (x : Account). x.c) same, ap (λ (x : Account). x.d) same)))
    (λ e. (ap (λ (x : Account). woken w (spent x)) same ∙ woken-spent w a plain past, omega arith))

-- ---- along the records

abbrev FitsThen : ℕ → Serving → Type 0
FitsThen t v = (due t v).mode ≡ Active → Fits t (due t v).account

record Stands (a : Account) (v : Serving) : Type 0 where
  pub plain : IsPlain a
  pub period : 1 ≤ a.p
  pub is : IsAs a v.mode v.account

abbrev Later : ℕ → List (ℕ × AttemptOutcome) → Type 0
Later t es = (k n : ℕ) (a : Account) (p : Program) (v : Serving) → Stands a v → KeepsLong k n a p → Follows p es → FitsAlong v es
    → FitsThen t (serving_after v es) → AreOnTime t n a es

stands-on : (a : Account) (u : ℕ) (o : AttemptOutcome) (b : Account) → Stands a (record { account = b; mode = Active }) → charged o b ≡ spent b → mode_after u o ≡ Active
    → Stands (spent a) (after u o b)
stands-on a u o b st spends mode = record {
  plain = plain-spent a st.plain;
  period = subst (λ p. 1 ≤ p) (sym (spent-p a)) st.period;
  is = subst (λ m. IsAs (spent a) m (charged o b)) (sym mode) (spends ∙ ap spent st.is);
}

on-time-by : (t k n : ℕ) (a : Account) (p : Program) (u : ℕ) (o : AttemptOutcome) (es : List (ℕ × AttemptOutcome)) (b : Account)
    → Later t es → Stands a (record { account = b; mode = Active }) → Fits u b
    → GoesOn (KeepsLong k (suc n) (spent a) p) (λ w. (a.d ≤ w) × KeepsLong k n (granted_at a.q a.p w) p) o
    → Follows p es → FitsAlong (after u o b) es → FitsThen t (serving_after (after u o b) es)
    → GoesOn (AreOnTime t (suc n) (spent a) es) (λ w. AreOnTime t n (granted_at a.q a.p w) es) o
on-time-by t k n a p u Next es b later st fit goes along fits then = later k (suc n) (spent a) p (after u Next b) (stands-on a u Next b st refl refl) goes along fits then
on-time-by t k n a p u (Write x) es b later st fit goes along fits then = later k (suc n) (spent a) p (after u (Write x) b) (stands-on a u (Write x) b st refl refl) goes along fits then
on-time-by t k n a p u WriteRefused es b later st fit goes along fits then = later k (suc n) (spent a) p (after u WriteRefused b) (stands-on a u WriteRefused b st refl refl) goes along fits then
on-time-by t k n a p u (Sleep w) es b later st fit goes along fits then =
    later k n (granted_at a.q a.p w) p (after u (Sleep w) b)
    (record { plain = plain-granted a.q a.p w st.plain.budget; period = st.period; is = as-slept a b u w st.is st.plain fit goes.0 }) goes.1 along fits then
on-time-by t k n a p u End es b later st fit goes along fits then = tt
on-time-by t k n a p u Yield es b later st fit goes along fits then = absurd goes
on-time-by t k n a p u (Now x) es b later st fit goes along fits then = absurd goes
on-time-by t k n a p u (Reserve x) es b later st fit goes along fits then = absurd goes
on-time-by t k n a p u ReserveRefused es b later st fit goes along fits then = absurd goes
on-time-by t k n a p u (Fault fault) es b later st fit goes along fits then = absurd goes

on_time : (t : ℕ) (es : List (ℕ × AttemptOutcome)) → Later t es
on_time t es k zero a p v st keeps along fit fits = tt
on_time t es zero (suc n) a p v st keeps along fit fits = absurd keeps
on_time t [] (suc k) (suc n) a p v st keeps along fit fits = next-due a t v.mode v.account st.plain st.period st.is fits
on_time t (e ∷ es) (suc k) (suc n) a p v st keeps along fit fits =
    let q : Program = attempted [] p in
    let b : Account = (due e.0 v).account in
    let same : b ≡ a = as-due a e.0 v.mode v.account st.is fit.0 in
    let still : attempt_at e.0 (granted_by e.1) p ≡ attempt_at 0 (λ c. false) p =
    attempt-still (KeepsLong k (suc n) (spent a) q) (λ w. (a.d ≤ w) × KeepsLong k n (granted_at a.q a.p w) q) e.0 (granted_by e.1) p keeps in
    let outcome : outcome_of p ≡ e.1 = ap (λ (x : Told). x.outcome) (sym still) ∙ along.0 in (
      omega (arith, fit.1, st.plain.some, ap (λ (x : Account). x.c) same, ap (λ (x : Account). x.d) same),
      on-time-by t k n a q e.0 e.1 es b (on_time t es) (record { plain = st.plain; period = st.period; is = same }) fit.1
          (subst (GoesOn (KeepsLong k (suc n) (spent a) q) (λ w. (a.d ≤ w) × KeepsLong k n (granted_at a.q a.p w) q)) outcome keeps)
          (subst (λ (x : Told). Follows x.program es) still along.1) fit.2 fits,
    )

-- ---- in a legal history

pub long_on_time : (set : TaskSet) (t i n k : ℕ) (s : SetTask) → IsAdmittedSet set → slice_get set.tasks i ≡ Some s
    → KeepsLong k n (granted_at s.budget s.period s.start) (loaded (origin s)) → AreOnTime t n (granted_at s.budget s.period s.start) (own i (legal set t))
long_on_time set t i n k s ok there keeps =
    let task = eligible-task set i s ok there in
    let x = task_state t (legal set t) i s in
    on_time t (own i (legal set t)) k n (granted_at s.budget s.period s.start) (first_program s) (first_serving s)
    (record {
      plain = plain-granted s.budget s.period s.start task.budgeted;
      period = omega (arith, task.budgeted, task.within);
      is = (woken-first s.budget s.period s.start, omega arith);
    }) keeps (follows set t i s there) (fits_along set t i s ok there)
    (Each-at (TaskFits t) (state_at set t).tasks i x (state-of set t i s there) (each_fits set t ok))
