-- A task's server along its own records: the cases of a wake, of a charge and of a mode, and what they keep.
use Rattle.rt_history.proofs.Common.{◌≡◌, ℕ, zero, suc, ◌+◌, ◌<◌, ◌≤◌, nat_le, true, false, List, [], ◌∷◌, ◌++◌, refl, sym, ap, subst, ◌∙◌, arith, nat_tests, Account, AttemptOutcome, Next, Reserve, serving_after}
use Rattle.std.proofs.Common.{◌*◌, ◌^◌}
use Rattle.std.proofs.lemmas.Bool.{cond_both, cond-true, leb-true, leb-false}
use Rattle.std.proofs.lemmas.Nat.{mul-le}
use Rattle.rt_words.specs.Limits.{tick_limit}
use Rattle.rt_admit.specs.Limits.{hyper_limit}
use Rattle.rt_server.specs.Account.{coming}
use Rattle.rt_server.specs.Arrival.{wakes_fresh, refreshed, woken}
use Rattle.rt_server.specs.Recharge.{spent, spent_for, yielded}
use Rattle.rt_server.specs.Reserve.{reserved}
use Rattle.rt_server.proofs.AccountLaws.{spend_bounds_deadline, yield_bounds_deadline, wake_grants, spend_keeps_grants, yield_keeps_grants, spend_keeps_coming, yield_keeps_coming}
use Rattle.rt_history.specs.declared.mode.Mode.{Mode}
use Rattle.rt_history.specs.declared.mode.Mode.TheVariants.{Active, Asleep, Ended, Faulted}
use Rattle.rt_history.specs.declared.record.AttemptOutcome.TheVariants.{End, Sleep, Yield, Fault}
use Rattle.rt_history.specs.Serving.{Serving, due_in, due, mode_after, charged, after}
use Rattle.rt_history.specs.Working.Bounded.{IsBounded, IsTakeable}

-- ---- cases

pub asleep_is_not_active : (w : ℕ) → Asleep w ≡ Active → ⊥
asleep_is_not_active w same = cc

-- a server with the wakes of tick t applied: it wakes at the tick until which its task was asleep, or stays
pub due_cases : (P : Serving → Type 0) (t : ℕ) (m : Mode) (a : Account) → ((w : ℕ) → m ≡ Asleep w → w ≤ t → P (record { account = woken w a; mode = Active }))
    → (((w : ℕ) → m ≡ Asleep w → t < w) → P (record { account = a; mode = m })) → P (due_in t m a)
due_cases P t Active a wakes stays = stays (λ w is. absurd cc)
due_cases P t Ended a wakes stays = stays (λ w is. absurd cc)
due_cases P t (Faulted fault) a wakes stays = stays (λ w is. absurd cc)
due_cases P t (Asleep v) a wakes stays =
    cond_both (nat_le v t) (record { account = woken v a; mode = Active }) (record { account = a; mode = Asleep v }) P
    (λ come. wakes v refl (leb-true v t come))
    (λ early. stays (λ w is. let later = leb-false v t early in let same : v ≡ w = cc in omega (arith, later, same)))

-- at tick t of a task that wakes then or later
pub woken-at : (P : Serving → Type 0) (t w : ℕ) (a : Account) → t ≤ w → P (record { account = woken t a; mode = Active })
    → P (record { account = a; mode = Asleep w }) → P (due_in t (Asleep w) a)
woken-at P t w a early wakes sleeps =
    cond_both (nat_le w t) (record { account = woken w a; mode = Active }) (record { account = a; mode = Asleep w }) P
    (λ e. let low = leb-true w t e in let same : t ≡ w = omega (arith, low) in subst (λ v. P (record { account = woken v a; mode = Active })) same wakes)
    (λ e. sleeps)

-- a wake is fresh, and takes the coming budget, or the account is kept
pub woken_cases : (P : Account → Type 0) (t : ℕ) (a : Account) → (wakes_fresh t a ≡ true → P (refreshed (coming a) t a)) → (wakes_fresh t a ≡ false → P a) → P (woken t a)
woken_cases P t a fresh kept = cond_both (wakes_fresh t a) (refreshed (coming a) t a) a P fresh kept

-- a charge is that of a tick, or that of a yield, or that of a reserve
pub charged_cases : (P : Account → Type 0) (outcome : AttemptOutcome) (a : Account) → P (spent a) → P (yielded a)
    → ((x : ℕ) → outcome ≡ Reserve x → P (reserved x (spent a))) → P (charged outcome a)
charged_cases P Yield a spends yields reserves = yields
charged_cases P (Reserve x) a spends yields reserves = reserves x refl
charged_cases P _ a spends yields reserves = spends

-- each mode that a record of tick u leaves
pub mode_after_cases : (P : Mode → Type 0) (u : ℕ) (outcome : AttemptOutcome) → P Active → ((w : ℕ) → outcome ≡ Sleep w → u < w → P (Asleep w)) → P Ended
    → ((fault : _) → P (Faulted fault)) → P (mode_after u outcome)
mode_after_cases P u (Sleep w) active asleep ended faulted = cond_both (nat_le w u) Active (Asleep w) P (λ past. active) (λ later. asleep w refl (leb-false w u later))
mode_after_cases P u End active asleep ended faulted = ended
mode_after_cases P u (Fault fault) active asleep ended faulted = faulted fault
mode_after_cases P u _ active asleep ended faulted = active

-- ---- wakes

-- wakes of a tick after those of the tick before
pub due_later : (t : ℕ) (s : Serving) → due (t + 1) (due t s) ≡ due (t + 1) s
due_later t s = later t s.mode s.account
  where
    later : (t : ℕ) (m : Mode) (a : Account) → due (t + 1) (due_in t m a) ≡ due_in (t + 1) m a
    later t m a =
        due_cases (λ (x : Serving). due (t + 1) x ≡ due_in (t + 1) m a) t m a (λ w asleep come. grind (arith, nat_tests, asleep, come)) (λ _. refl)

pub due-woken : (t w : ℕ) (m : Mode) (a : Account) → m ≡ Asleep w → w ≤ t → due_in t m a ≡ record { account = woken w a; mode = Active }
due-woken t w m a asleep come = let now : nat_le w t ≡ true = grind (arith, nat_tests) in rw (asleep, now) refl

pub due-kept : (t : ℕ) (m : Mode) (a : Account) → ((w : ℕ) → m ≡ Asleep w → t < w) → due_in t m a ≡ record { account = a; mode = m }
due-kept t m a later =
    due_cases (λ (x : Serving). x ≡ record { account = a; mode = m }) t m a (λ w asleep come. absurd (omega (arith, later w asleep, come))) (λ _. refl)

pub due-active : (t : ℕ) (v : Serving) → v.mode ≡ Active → due t v ≡ v
due-active t v active = ap (λ m. due_in t m v.account) active ∙ ap (λ m. record { account = v.account; mode = m }) (sym active)

-- a fresh wake, seen at any later tick
pub due-fresh : (r u : ℕ) (v : Serving) → v.mode ≡ Asleep r → wakes_fresh r v.account ≡ true → r ≤ u
    → due u v ≡ record { account = refreshed (coming v.account) r v.account; mode = Active }
due-fresh r u v asleep fresh past =
    due-woken u r v.mode v.account asleep past
    ∙ ap (λ a. record { account = a; mode = Active }) (cond-true (wakes_fresh r v.account) (refreshed (coming v.account) r v.account) v.account fresh)

-- ---- the period stays

pub due-period : (t : ℕ) (m : Mode) (a : Account) → (due_in t m a).account.p ≡ a.p
due-period t m a = due_cases (λ (x : Serving). x.account.p ≡ a.p) t m a (λ w asleep come. (wake_grants w a).1) (λ _. refl)

-- and a charge leaves the budget too
pub charged-grants : (outcome : AttemptOutcome) (a : Account) → ((charged outcome a).q ≡ a.q) × ((charged outcome a).p ≡ a.p)
charged-grants outcome a =
    charged_cases (λ (b : Account). (b.q ≡ a.q) × (b.p ≡ a.p)) outcome a (spend_keeps_grants a) (yield_keeps_grants a) (λ x is. spend_keeps_grants a)

-- over a record, with the wake before it
pub step-period : (e : ℕ × AttemptOutcome) (s : Serving) → (after e.0 e.1 (due e.0 s).account).account.p ≡ s.account.p
step-period e s = (charged-grants e.1 (due e.0 s).account).1 ∙ due-period e.0 s.mode s.account

pub period-stays : (s : Serving) (es : List (ℕ × AttemptOutcome)) → (serving_after s es).account.p ≡ s.account.p
period-stays s [] = refl
period-stays s (e ∷ es) = period-stays (after e.0 e.1 (due e.0 s).account) es ∙ step-period e s

-- ---- one record more

pub serving_after-append : (s : Serving) (es fs : List (ℕ × AttemptOutcome)) → serving_after s (es ++ fs) ≡ serving_after (serving_after s es) fs
serving_after-append s [] fs = refl
serving_after-append s (e ∷ es) fs = serving_after-append (after e.0 e.1 (due e.0 s).account) es fs

-- ---- bounds

pub IsBounded-woken : (w t : ℕ) (a : Account) → w ≤ t → IsBounded t a → IsBounded t (woken w a)
IsBounded-woken w t a come b =
    woken_cases (IsBounded t) w a
    (λ fresh.
    let ahead : 1 * t ≤ a.p * t = mul-le 1 t a.p t (omega (arith, b.positive, b.within)) (omega arith) in
    record {
      positive = b.comes;
      within = b.comes_within;
      comes = b.comes;
      comes_within = b.comes_within;
      period = b.period;
      deadline = omega (arith, come, ahead);
    })
    (λ kept. b)

pub IsBounded-due : (t : ℕ) (m : Mode) (a : Account) → IsBounded t a → IsBounded t (due_in t m a).account
IsBounded-due t m a b = due_cases (λ (x : Serving). IsBounded t x.account) t m a (λ w asleep come. IsBounded-woken w t a come b) (λ _. b)

-- a charge that keeps the grants
charge-bounded : (t : ℕ) (a c : Account) → IsBounded t a → (c.q ≡ a.q) × (c.p ≡ a.p) → coming c ≡ coming a → c.d ≤ a.p * (t + 2) → IsBounded (t + 1) c
charge-bounded t a c b grants comes moved =
    let at : t + 1 + 1 ≡ t + 2 = omega arith in
    record {
      positive = rw grants.0 b.positive;
      within = rw (grants.0, grants.1) b.within;
      comes = rw comes b.comes;
      comes_within = rw (comes, grants.1) b.comes_within;
      period = rw grants.1 b.period;
      deadline = rw (grants.1, at) moved;
    }

-- the budget that a server takes with a reserve
takes-of : (outcome : AttemptOutcome) (a : Account) (x : ℕ) → IsTakeable outcome a → outcome ≡ Reserve x → (1 ≤ x) × (x ≤ a.p)
takes-of outcome a x takes is = subst (λ o. IsTakeable o a) is takes

spent-bounded : (t : ℕ) (a : Account) → IsBounded t a → IsBounded (t + 1) (spent a)
spent-bounded t a b = charge-bounded t a (spent a) b (spend_keeps_grants a) (spend_keeps_coming a) (spend_bounds_deadline t a b.deadline)

pub IsBounded-charged : (t : ℕ) (outcome : AttemptOutcome) (a : Account) → IsBounded t a → IsTakeable outcome a → IsBounded (t + 1) (charged outcome a)
IsBounded-charged t outcome a b takes =
    charged_cases (IsBounded (t + 1)) outcome a (spent-bounded t a b)
    (charge-bounded t a (yielded a) b (yield_keeps_grants a) (yield_keeps_coming a) (yield_bounds_deadline t a b.deadline))
    (λ x is.
    let s = spent-bounded t a b in
    let fits = takes-of outcome a x takes is in
    record {
      positive = s.positive;
      within = s.within;
      comes = fits.0;
      comes_within = rw (spend_keeps_grants a).1 fits.1;
      period = s.period;
      deadline = s.deadline;
    })

-- a bound for a tick is one for each later
pub IsBounded-later : (t u : ℕ) (a : Account) → t ≤ u → IsBounded t a → IsBounded u a
IsBounded-later t u a le b =
    let more : a.p * (t + 1) ≤ a.p * (u + 1) = mul-le a.p (t + 1) a.p (u + 1) (omega arith) (omega arith) in
    record {
      positive = b.positive;
      within = b.within;
      comes = b.comes;
      comes_within = b.comes_within;
      period = b.period;
      deadline = omega (arith, b.deadline, more);
    }

-- the deadline n periods on is below 2^63
pub has_room_for : (t n : ℕ) (a : Account) → t + n ≤ tick_limit + 1 → IsBounded t a → a.d + a.p * n < 2 ^ 63
has_room_for t n a limit b =
    let most : a.p * (t + 1 + n) ≤ hyper_limit * (tick_limit + 2) = mul-le a.p (t + 1 + n) hyper_limit (tick_limit + 2) b.period (omega (arith, limit)) in
    let parts : a.p * (t + 1 + n) ≡ a.p * (t + 1) + a.p * n = grind arith in
    omega (arith, b.deadline, parts, most)

-- and so is the next one
pub has_room : (t : ℕ) (a : Account) → t ≤ tick_limit → IsBounded t a → a.d + a.p < 2 ^ 63
has_room t a limit b = omega (arith, has_room_for t 1 a (omega (arith, limit)) b)

-- n ticks without a yield
pub IsBounded-spent_for : (t n : ℕ) (a : Account) → IsBounded t a → IsBounded (t + n) (spent_for n a)
unfolding spent_for
IsBounded-spent_for t zero a b = IsBounded-later t (t + zero) a (omega arith) b
IsBounded-spent_for t (suc n) a b =
    let at : t + n + 1 ≡ t + suc n = omega arith in
    subst (λ (u : ℕ). IsBounded u (spent (spent_for n a))) at (spent-bounded (t + n) (spent_for n a) (IsBounded-spent_for t n a b))

-- after a charge there is budget
pub charged-filled : (outcome : AttemptOutcome) (a : Account) → 1 ≤ a.q → 1 ≤ (charged outcome a).c
charged-filled outcome a positive =
    charged_cases (λ (b : Account). 1 ≤ b.c) outcome a (spend_fills a positive) (yield_fills a positive) (λ x is. spend_fills a positive)
  where
    spend_fills : (s : Account) → 1 ≤ s.q → 1 ≤ (spent s).c
    spend_fills s positive = grind (arith, nat_tests)

    yield_fills : (s : Account) → 1 ≤ s.q → 1 ≤ (yielded s).c
    yield_fills s positive = grind (arith, nat_tests)

-- and after n ticks
pub spent_for-filled : (t n : ℕ) (a : Account) → IsBounded t a → 1 ≤ a.c → 1 ≤ (spent_for n a).c
unfolding spent_for
spent_for-filled t zero a b some = some
spent_for-filled t (suc n) a b some = charged-filled Next (spent_for n a) (IsBounded-spent_for t n a b).positive
