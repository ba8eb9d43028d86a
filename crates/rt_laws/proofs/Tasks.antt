-- What a task of any mode may still take, and how a tick, a record and a wake change it.
use Rattle.rt_laws.proofs.Common.{◌≡◌, ℕ, ◌+◌, ◌*◌, ◌/◌, ◌≤◌, nat_le, refl, subst, arith, cond_both, leb-true, leb-false, Account, woken, spent, reserved, Fits, Mode, Active, Asleep, Ended, Faulted, AttemptOutcome, Serving, due_in, mode_after, charged, TaskState, due_cases, charged_cases}
use Rattle.rt_history.specs.Working.Bounded.{IsTakeable}
use Rattle.rt_history.proofs.ServingLaws.{mode_after_cases, woken-at}
use Rattle.rt_laws.proofs.Demand.{live, rest, live-whole, rest-passes, takes, takes-rest, takes_all, takes_all-rest, rest-small, live-small, scaled-budget, fits-within}
use Rattle.rt_laws.proofs.Accounts.{one_less, postponed, spent_cases, IsGranted, share, claim, granted-woken, granted-postponed, granted-spent, granted-reserved, IsNoMore, woken-asks, woken-claim, spent-share, woken-ready, spent-ready}

-- ---- one task

-- what a task may take up to D, times h
abbrev pub asks_in : ℕ → ℕ → ℕ → Mode → Account → ℕ
asks_in h t D Active a = live a.c a.d (share h a) h D
asks_in h t D (Asleep w) a = rest a.c a.d (share h a) h t D
asks_in h t D Ended a = rest a.c a.d (share h a) h t D
asks_in h t D (Faulted fault) a = rest a.c a.d (share h a) h t D

abbrev pub asks : ℕ → ℕ → ℕ → TaskState → ℕ
asks h t D s = asks_in h t D s.serving.mode s.serving.account

abbrev pub share_of : ℕ → TaskState → ℕ
share_of h s = share h s.serving.account

abbrev pub claim_of : ℕ → TaskState → ℕ
claim_of h s = claim h s.serving.account

-- an active task has budget and a deadline to come, and one that is asleep wakes at tick k or later
abbrev pub IsReady : ℕ → ℕ → Mode → Account → Type 0
IsReady t k Active a = (1 ≤ a.c) × (t ≤ a.d)
IsReady t k (Asleep w) a = k ≤ w
IsReady t k Ended a = Unit {0}
IsReady t k (Faulted fault) a = Unit {0}

pub record IsSound (h t k : ℕ) (s : TaskState) : Type 0 where
  pub granted : IsGranted h s.serving.account
  pub ready : IsReady t k s.serving.mode s.serving.account

-- the deadline of an active task is d or later
abbrev pub IsAfter : ℕ → Mode → Account → Type 0
IsAfter d Active a = d ≤ a.d
IsAfter d (Asleep w) a = Unit {0}
IsAfter d Ended a = Unit {0}
IsAfter d (Faulted fault) a = Unit {0}

abbrev pub TaskIsAfter : ℕ → TaskState → Type 0
TaskIsAfter d s = IsAfter d s.serving.mode s.serving.account

-- ---- a tick passes

pub asks-passes : (h t D : ℕ) (m : Mode) (a : Account) → asks_in h (t + 1) D m a ≤ asks_in h t D m a
asks-passes h t D Active a = omega arith
asks-passes h t D (Asleep w) a = rest-passes a.c a.d (share h a) h t D
asks-passes h t D Ended a = rest-passes a.c a.d (share h a) h t D
asks-passes h t D (Faulted fault) a = rest-passes a.c a.d (share h a) h t D

-- up to a D before its deadline a task has no more than its weight's part
pub asks-small : (h t D : ℕ) (m : Mode) (a : Account) → t ≤ D → IsAfter (D + 1) m a → asks_in h t D m a + share h a * t ≤ share h a * D
asks-small h t D Active a early later = live-small a.c a.d (share h a) h t D early (omega arith)
asks-small h t D (Asleep w) a early later = rest-small a.c a.d (share h a) h t D early
asks-small h t D Ended a early later = rest-small a.c a.d (share h a) h t D early
asks-small h t D (Faulted fault) a early later = rest-small a.c a.d (share h a) h t D early

pub after-before : (d e : ℕ) (m : Mode) (a : Account) → e ≤ d → IsAfter d m a → IsAfter e m a
after-before d e Active a low later = omega arith
after-before d e (Asleep w) a low later = tt
after-before d e Ended a low later = tt
after-before d e (Faulted fault) a low later = tt

-- ---- a tick is spent

pub asks-one_less : (h t D : ℕ) (m : Mode) (a : Account) → 1 ≤ a.c → a.d ≤ D → asks_in h t D m (one_less a) + h ≤ live a.c a.d (share h a) h D
asks-one_less h t D Active a some due = takes a.c a.d (share h a) h D some due
asks-one_less h t D (Asleep w) a some due = takes-rest a.c a.d (share h a) h t D some due
asks-one_less h t D Ended a some due = takes-rest a.c a.d (share h a) h t D some due
asks-one_less h t D (Faulted fault) a some due = takes-rest a.c a.d (share h a) h t D some due

pub asks-postponed : (h t D : ℕ) (m : Mode) (a : Account) → IsGranted h a → 1 ≤ a.c → a.d ≤ D
    → asks_in h t D m (postponed a) + h ≤ live a.c a.d (share h a) h D
asks-postponed h t D Active a ok some due = takes_all a.q a.p a.c a.d (share h a) h D (scaled-budget a.q a.p (h / a.p) h ok.whole) some due
asks-postponed h t D (Asleep w) a ok some due = takes_all-rest a.q a.p a.c a.d (share h a) h t D (scaled-budget a.q a.p (h / a.p) h ok.whole) some due
asks-postponed h t D Ended a ok some due = takes_all-rest a.q a.p a.c a.d (share h a) h t D (scaled-budget a.q a.p (h / a.p) h ok.whole) some due
asks-postponed h t D (Faulted fault) a ok some due = takes_all-rest a.q a.p a.c a.d (share h a) h t D (scaled-budget a.q a.p (h / a.p) h ok.whole) some due

pub asks-spent : (h t D : ℕ) (m : Mode) (a : Account) → IsGranted h a → 1 ≤ a.c → a.d ≤ D → asks_in h t D m (spent a) + h ≤ live a.c a.d (share h a) h D
asks-spent h t D m a ok some due =
    spent_cases (λ b. asks_in h t D m b + h ≤ live a.c a.d (share h a) h D) a
    (λ more. asks-one_less h t D m a some due) (λ last. asks-postponed h t D m a ok some due)

-- a reserve changes no demand
pub asks-reserved : (h t D x : ℕ) (m : Mode) (a : Account) → asks_in h t D m (reserved x a) ≡ asks_in h t D m a
asks-reserved h t D x Active a = refl
asks-reserved h t D x (Asleep w) a = refl
asks-reserved h t D x Ended a = refl
asks-reserved h t D x (Faulted fault) a = refl

pub granted-charged : (h : ℕ) (outcome : AttemptOutcome) (a : Account) → IsGranted h a → IsTakeable outcome a → IsGranted h (charged outcome a)
granted-charged h outcome a ok takes =
    charged_cases (IsGranted h) outcome a (granted-spent h a ok) (granted-postponed h a ok)
    (λ x is.
    let fits : (1 ≤ x) × (x ≤ a.p) = subst (λ o. IsTakeable o a) is takes in
    let same : (spent a).p ≡ a.p = spent_cases (λ (b : Account). b.p ≡ a.p) a (λ more. refl) (λ last. refl) in
    granted-reserved h x (spent a) (granted-spent h a ok) fits.0 (rw same fits.1))

pub charged-share : (h : ℕ) (outcome : AttemptOutcome) (a : Account) → share h (charged outcome a) ≡ share h a
charged-share h outcome a = charged_cases (λ b. share h b ≡ share h a) outcome a (spent-share h a) refl (λ x is. spent-share h a)

pub charged-ready : (h : ℕ) (outcome : AttemptOutcome) (a : Account) → IsGranted h a → (1 ≤ (charged outcome a).c) × (a.d ≤ (charged outcome a).d)
charged-ready h outcome a ok =
    charged_cases (λ b. (1 ≤ b.c) × (a.d ≤ b.d)) outcome a (spent-ready h a ok) (ok.asked, omega arith) (λ x is. spent-ready h a ok)

pub asks-charged : (h t D : ℕ) (m : Mode) (outcome : AttemptOutcome) (a : Account) → IsGranted h a → 1 ≤ a.c → a.d ≤ D
    → asks_in h t D m (charged outcome a) + h ≤ live a.c a.d (share h a) h D
asks-charged h t D m outcome a ok some due =
    charged_cases (λ b. asks_in h t D m b + h ≤ live a.c a.d (share h a) h D) outcome a (asks-spent h t D m a ok some due) (asks-postponed h t D m a ok some due)
    (λ x is. rw (asks-reserved h t D x m (spent a)) (asks-spent h t D m a ok some due))

-- each mode that a record of tick t leaves
pub ready-after : (t : ℕ) (outcome : AttemptOutcome) (a : Account) → 1 ≤ a.c → t + 1 ≤ a.d → IsReady (t + 1) (t + 1) (mode_after t outcome) a
ready-after t outcome a some later =
    mode_after_cases (λ m. IsReady (t + 1) (t + 1) m a) t outcome (some, later) (λ w is past. omega (arith, past)) tt (λ fault. tt)

pub is_after-after : (d : ℕ) (m : Mode) (a : Account) → d ≤ a.d → IsAfter d m a
is_after-after d Active a later = later
is_after-after d (Asleep w) a later = tt
is_after-after d Ended a later = tt
is_after-after d (Faulted fault) a later = tt

-- ---- wakes of tick t

pub asks-due : (h t D : ℕ) (m : Mode) (a : Account) → IsGranted h a → IsReady t t m a → t ≤ D
    → IsNoMore t D (asks_in h t D m a) (share h a) (asks_in h t D (due_in t m a).mode (due_in t m a).account) (share h (due_in t m a).account)
asks-due h t D Active a ok ready early = omega arith
asks-due h t D (Asleep w) a ok ready early =
    woken-at (λ (s : Serving). IsNoMore t D (rest a.c a.d (share h a) h t D) (share h a) (asks_in h t D s.mode s.account) (share h s.account))
    t w a ready (woken-asks t h D a ok early) (omega arith)
asks-due h t D Ended a ok ready early = omega arith
asks-due h t D (Faulted fault) a ok ready early = omega arith

pub claim-due : (h t : ℕ) (m : Mode) (a : Account) → claim h (due_in t m a).account ≤ claim h a
claim-due h t m a = due_cases (λ (s : Serving). claim h s.account ≤ claim h a) t m a (λ w asleep come. woken-claim w h a) (λ _. omega arith)

pub granted-due : (h t : ℕ) (m : Mode) (a : Account) → IsGranted h a → IsReady t t m a → IsGranted h (due_in t m a).account
granted-due h t Active a ok ready = ok
granted-due h t (Asleep w) a ok ready = woken-at (λ (s : Serving). IsGranted h s.account) t w a ready (granted-woken h t a ok) ok
granted-due h t Ended a ok ready = ok
granted-due h t (Faulted fault) a ok ready = ok

pub ready-due : (h t : ℕ) (m : Mode) (a : Account) → IsGranted h a → IsReady t t m a → IsReady t (t + 1) (due_in t m a).mode (due_in t m a).account
ready-due h t Active a ok ready = ready
ready-due h t (Asleep w) a ok ready =
    cond_both (nat_le w t) (record { account = woken w a; mode = Active }) (record { account = a; mode = Asleep w }) (λ (s : Serving). IsReady t (t + 1) s.mode s.account)
    (λ e. let low = leb-true w t e in let same : t ≡ w = omega (arith, low) in subst (λ v. (1 ≤ (woken v a).c) × (t ≤ (woken v a).d)) same (woken-ready h t a ok))
    (λ e. let high = leb-false w t e in omega (arith, high))
ready-due h t Ended a ok ready = tt
ready-due h t (Faulted fault) a ok ready = tt

-- ---- a tick later

pub ready-idle : (t : ℕ) (m : Mode) (a : Account) → IsReady t (t + 1) m a → IsAfter (t + 1) m a → IsReady (t + 1) (t + 1) m a
ready-idle t Active a ready later = (ready.0, later)
ready-idle t (Asleep w) a ready later = ready
ready-idle t Ended a ready later = tt
ready-idle t (Faulted fault) a ready later = tt

-- ---- fit

-- a task whose demand is within the part of a weight w up to h has time before its deadline
pub fits-in : (h t k w : ℕ) (m : Mode) (a : Account) → IsReady t k m a → w ≤ h → 1 ≤ h → ((D : ℕ) → t ≤ D → asks_in h t D m a + w * t ≤ w * D)
    → m ≡ Active → Fits t a
fits-in h t k w Active a ready load some room active =
    let whole : live a.c a.d (share h a) h a.d ≡ a.c * h = live-whole a.c a.d (share h a) h in
    fits-within a.c h w a.d t (rw whole at (room a.d ready.1)) load some ready.1
fits-in h t k w (Asleep v) a ready load some room active = absurd cc
fits-in h t k w Ended a ready load some room active = absurd cc
fits-in h t k w (Faulted fault) a ready load some room active = absurd cc

pub ready-fit : (t : ℕ) (m : Mode) (a : Account) → IsReady t (t + 1) m a → (m ≡ Active → Fits t a) → IsReady (t + 1) (t + 1) m a
ready-fit t Active a ready fits = let fit : Fits t a = fits refl in (ready.0, omega (arith, fit, ready.0))
ready-fit t (Asleep w) a ready fits = ready
ready-fit t Ended a ready fits = tt
ready-fit t (Faulted fault) a ready fits = tt
