-- What the rules of one server do to its demand.
use Rattle.rt_laws.proofs.Common.{◌≡◌, ℕ, zero, suc, ◌+◌, ◌-◌, ◌*◌, ◌/◌, ◌==◌, ◌<◌, ◌≤◌, max, inl, inr, refl, arith, mul-le-mul_right, cases_lt, cond_both, leb-true, leb-false, nat_tests, Account, coming, wakes_fresh, refreshed, woken, spent, reserved}
use Rattle.std.proofs.Math.Nat.{le_of_lt, le-max_left, le-max_right, max-le}
use Rattle.std.proofs.lemmas.Bool.{eqb-true}
use Rattle.rt_admit.specs.Weight.{weight}
use Rattle.rt_laws.proofs.Demand.{live, rest, fresh, kept, scaled-late, scaled-soon, scaled-budget}

-- ---- the cases of each rule

pub woken_cases : (P : Account → Type 0) (t : ℕ) (a : Account) → (a.d * a.q ≤ a.c * a.p + t * a.q → P (refreshed (coming a) t a))
    → (a.c * a.p + t * a.q < a.d * a.q → P a) → P (woken t a)
woken_cases P t a fresh kept =
    cond_both (wakes_fresh t a) (refreshed (coming a) t a) a P (λ e. fresh (leb-true (a.d * a.q) (a.c * a.p + t * a.q) e))
    (λ e. kept (leb-false (a.d * a.q) (a.c * a.p + t * a.q) e))

-- one tick less to spend
abbrev pub one_less : Account → Account
one_less a = record a { c = a.c - 1 }

-- the budget filled, and the deadline a period on
abbrev pub postponed : Account → Account
postponed a = record a { c = a.q; d = a.d + a.p }

pub spent_cases : (P : Account → Type 0) (a : Account) → (2 ≤ a.c → P (one_less a)) → (a.c ≤ 1 → P (postponed a)) → P (spent a)
spent_cases P a left last =
    cond_both ((a.c - 1) == 0) (postponed a) (one_less a) P
    (λ e. last (let none : a.c - 1 ≡ 0 = eqb-true (a.c - 1) 0 e in omega arith))
    (λ e. left (grind (arith, nat_tests)))

-- ---- a server that was granted its budgets and period

-- budgets of 1 to the period, which is a part of the hyperperiod h, and an empty account has never been woken
pub record IsGranted (h : ℕ) (a : Account) : Type 0 where
  pub asked : 1 ≤ a.q
  pub within : a.q ≤ a.p
  pub comes : 1 ≤ coming a
  pub comes_within : coming a ≤ a.p
  pub whole : a.p * (h / a.p) ≡ h
  pub filled : a.c ≡ 0 → a.d ≡ 0

-- its weight
abbrev pub share : ℕ → Account → ℕ
share h a = weight h a.q a.p

-- the weight that it holds: that of the greater of its present budget and the coming one
abbrev pub claim : ℕ → Account → ℕ
claim h a = weight h (max a.q (coming a)) a.p

pub share-claim : (h : ℕ) (a : Account) → share h a ≤ claim h a
share-claim h a = mul-le-mul_right (h / a.p) (le-max_left a.q (coming a))

pub granted-woken : (h t : ℕ) (a : Account) → IsGranted h a → IsGranted h (woken t a)
granted-woken h t a ok =
    woken_cases (IsGranted h) t a
    (λ late. record {
      asked = ok.comes;
      within = ok.comes_within;
      comes = ok.comes;
      comes_within = ok.comes_within;
      whole = ok.whole;
      filled = λ none. absurd (omega (arith, ok.comes, none));
    })
    (λ soon. ok)

granted-one_less : (h : ℕ) (a : Account) → IsGranted h a → 2 ≤ a.c → IsGranted h (one_less a)
granted-one_less h a ok more =
    record {
      asked = ok.asked;
      within = ok.within;
      comes = ok.comes;
      comes_within = ok.comes_within;
      whole = ok.whole;
      filled = λ none. absurd (omega (arith, more, none));
    }

pub granted-postponed : (h : ℕ) (a : Account) → IsGranted h a → IsGranted h (postponed a)
granted-postponed h a ok =
    record {
      asked = ok.asked;
      within = ok.within;
      comes = ok.comes;
      comes_within = ok.comes_within;
      whole = ok.whole;
      filled = λ none. absurd (omega (arith, ok.asked, none));
    }

pub granted-spent : (h : ℕ) (a : Account) → IsGranted h a → IsGranted h (spent a)
granted-spent h a ok = spent_cases (IsGranted h) a (granted-one_less h a ok) (λ last. granted-postponed h a ok)

pub granted-reserved : (h x : ℕ) (a : Account) → IsGranted h a → 1 ≤ x → x ≤ a.p → IsGranted h (reserved x a)
granted-reserved h x a ok positive within =
    record { asked = ok.asked; within = ok.within; comes = positive; comes_within = within; whole = ok.whole; filled = ok.filled }

-- ---- demand and weight

-- A task that asked for `asked` up to D at the weight w asks for `asks` at the weight v: beyond the part of its weight in the ticks
-- from t to D it asks for no more than before.
abbrev pub IsNoMore : ℕ → ℕ → ℕ → ℕ → ℕ → ℕ → Type 0
IsNoMore t D asked w asks v = asks + w * D + v * t ≤ asked + v * D + w * t

-- a fresh wake that takes any budget x
pub refreshed-asks : (x t h D : ℕ) (a : Account) → IsGranted h a → a.d * a.q ≤ a.c * a.p + t * a.q → t ≤ D
    → live x (t + a.p) (weight h x a.p) h D + share h a * D + weight h x a.p * t ≤ rest a.c a.d (share h a) h t D + weight h x a.p * D + share h a * t
refreshed-asks x t h D a ok late early =
    fresh x a.p (weight h x a.p) a.c a.d (share h a) h t D (scaled-budget x a.p (h / a.p) h ok.whole)
    (scaled-late a.p (h / a.p) h a.d a.q a.c t ok.whole late) early

-- each wake
pub woken-asks : (t h D : ℕ) (a : Account) → IsGranted h a → t ≤ D
    → IsNoMore t D (rest a.c a.d (share h a) h t D) (share h a) (live (woken t a).c (woken t a).d (share h (woken t a)) h D) (share h (woken t a))
woken-asks t h D a ok early =
    woken_cases (λ b. IsNoMore t D (rest a.c a.d (share h a) h t D) (share h a) (live b.c b.d (share h b) h D) (share h b)) t a
    (λ late. refreshed-asks (coming a) t h D a ok late early)
    (λ soon.
    let asks = kept a.c a.d (share h a) h t D (scaled-soon a.p (h / a.p) h a.d a.q a.c t ok.whole soon) early in
    omega (arith, asks))

-- no wake makes a server hold more
pub woken-claim : (t h : ℕ) (a : Account) → claim h (woken t a) ≤ claim h a
woken-claim t h a =
    woken_cases (λ b. claim h b ≤ claim h a) t a
    (λ late. mul-le-mul_right (h / a.p) (max-le (le-max_right a.q (coming a)) (le-max_right a.q (coming a))))
    (λ soon. omega arith)

pub spent-share : (h : ℕ) (a : Account) → share h (spent a) ≡ share h a
spent-share h a = spent_cases (λ b. share h b ≡ share h a) a (λ more. refl) (λ last. refl)

pub spent-claim : (h : ℕ) (a : Account) → claim h (spent a) ≡ claim h a
spent-claim h a = spent_cases (λ b. claim h b ≡ claim h a) a (λ more. refl) (λ last. refl)

pub reserved-claim : (h x : ℕ) (a : Account) → claim h (reserved x (spent a)) ≡ claim h (reserved x a)
reserved-claim h x a = spent_cases (λ b. claim h (reserved x b) ≡ claim h (reserved x a)) a (λ more. refl) (λ last. refl)

-- once woken, it has budget, and its deadline is still to come
kept-later : (c p t q d : ℕ) → c * p + t * q < d * q → t ≤ d
kept-later c p t q d soon =
    elim (cases_lt d t) [ inl past ↦ absurd (omega (arith, mul-le-mul_right q (le_of_lt past))) | inr later ↦ later ]

kept-some : (c p t q d : ℕ) → c * p + t * q < d * q → (c ≡ 0 → d ≡ 0) → 1 ≤ c
kept-some zero p t q d soon filled = let none : d ≡ 0 = filled refl in absurd (let past : zero * p + t * q < 0 * q = rw none at soon in omega arith)
kept-some (suc c) p t q d soon filled = omega arith

pub woken-ready : (h t : ℕ) (a : Account) → IsGranted h a → (1 ≤ (woken t a).c) × (t ≤ (woken t a).d)
woken-ready h t a ok =
    woken_cases (λ b. (1 ≤ b.c) × (t ≤ b.d)) t a (λ late. (ok.comes, omega arith))
    (λ soon. (kept-some a.c a.p t a.q a.d soon ok.filled, kept-later a.c a.p t a.q a.d soon))

-- after a tick it has budget again, and its deadline is no earlier
pub spent-ready : (h : ℕ) (a : Account) → IsGranted h a → (1 ≤ (spent a).c) × (a.d ≤ (spent a).d)
spent-ready h a ok =
    spent_cases (λ b. (1 ≤ b.c) × (a.d ≤ b.d)) a (λ more. (omega arith, omega arith)) (λ last. (ok.asked, omega arith))
