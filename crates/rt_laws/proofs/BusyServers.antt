-- One server that is always busy: what it has used, and what it uses up to a deadline after the hyperperiod.
use Rattle.rt_laws.proofs.Common.{◌≡◌, ℕ, ◌+◌, ◌-◌, ◌*◌, ◌/◌, ◌<◌, ◌≤◌, true, inl, inr, refl, ap, ◌∙◌, arith, mul-le-mul_left, cases_lt, nat_tests, Params, IsEligible, weight_of, Account, wakes_fresh, spent, Fits, awake}
use Rattle.std.proofs.Math.Nat.{mul-div_cancel_left}
use Rattle.rt_server.specs.Account.{begun}
use Rattle.rt_laws.specs.Working.BusyServers.{due_by}
use Rattle.rt_laws.proofs.Accounts.{one_less, postponed, spent_cases, share}

-- ---- what is used

-- granted a part of the hyperperiod h, with budget left, and a deadline of whole periods
pub record IsBusy (h : ℕ) (a : Account) : Type 0 where
  pub asked : 1 ≤ a.q
  pub within : a.q ≤ a.p
  pub whole : a.p * (h / a.p) ≡ h
  pub some : 1 ≤ a.c
  pub most : a.c ≤ a.q
  pub periods : ℕ
  pub deadline : a.d ≡ a.p * periods
  pub first : 1 ≤ periods

-- the ticks that it has spent since it woke at tick 0
abbrev pub used : Account → ℕ
used a = a.q * (a.d / a.p) - a.c

-- in numbers
pub used-number : (q p c d k : ℕ) → 1 ≤ p → c ≤ q → 1 ≤ k → d ≡ p * k → (q * (d / p) - c) + c ≡ q * k
used-number q p c d k some most first is =
    let whole : d / p ≡ k = ap (λ x. x / p) is ∙ mul-div_cancel_left k some in
    let room : q * 1 ≤ q * k = mul-le-mul_left q first in
    rw whole (omega arith)

used-is : (h : ℕ) (a : Account) (ok : IsBusy h a) → used a + a.c ≡ a.q * ok.periods
used-is h a ok = used-number a.q a.p a.c a.d ok.periods (omega (arith, ok.asked, ok.within)) ok.most ok.first ok.deadline

share-room : (q k c n : ℕ) → c ≤ q → n < k → q * n + c ≤ q * k
share-room q k c n most below =
    let more : q * (n + 1) ≤ q * k = mul-le-mul_left q (omega arith) in
    omega arith

-- the periods up to a deadline after the hyperperiod are more than the hyperperiod has
later-periods : (h p n k d : ℕ) → p * n ≡ h → d ≡ p * k → h < d → n < k
later-periods h p n k d whole is late =
    elim (cases_lt n k) [
      | inl below ↦ below
      | inr beyond ↦ absurd (let low : p * k ≤ p * n = mul-le-mul_left p beyond in omega arith)
    ]

-- one that fits at the end of the hyperperiod has spent its weight
pub fits-used : (h : ℕ) (a : Account) → IsBusy h a → Fits h a → share h a ≤ used a
fits-used h a ok fits =
    let late : h < a.d = omega (arith, ok.some) in
    let periods : h / a.p < ok.periods = later-periods h a.p (h / a.p) ok.periods a.d ok.whole ok.deadline late in
    let room = share-room a.q ok.periods a.c (h / a.p) ok.most periods in
    let is = used-is h a ok in
    omega (arith, room, is)

-- ---- a tick

busy-one_less : (h : ℕ) (a : Account) → IsBusy h a → 2 ≤ a.c → IsBusy h (one_less a)
busy-one_less h a ok more = record {
  asked = ok.asked;
  within = ok.within;
  whole = ok.whole;
  some = omega arith;
  most = omega (arith, ok.most);
  periods = ok.periods;
  deadline = ok.deadline;
  first = ok.first;
}

busy-postponed : (h : ℕ) (a : Account) → IsBusy h a → IsBusy h (postponed a)
busy-postponed h a ok = record {
  asked = ok.asked;
  within = ok.within;
  whole = ok.whole;
  some = ok.asked;
  most = omega arith;
  periods = ok.periods + 1;
  deadline = omega (arith, ok.deadline);
  first = omega arith;
}

pub busy-spent : (h : ℕ) (a : Account) → IsBusy h a → IsBusy h (spent a)
busy-spent h a ok = spent_cases (IsBusy h) a (busy-one_less h a ok) (λ last. busy-postponed h a ok)

-- it uses one more
pub used-spent : (h : ℕ) (a : Account) → IsBusy h a → used (spent a) ≡ used a + 1
used-spent h a ok =
    let before = used-is h a ok in
    let some : 1 ≤ a.p = omega (arith, ok.asked, ok.within) in
    spent_cases (λ b. used b ≡ used a + 1) a
    (λ more. let now = used-number a.q a.p (a.c - 1) a.d ok.periods some (omega (arith, ok.most)) ok.first ok.deadline in omega (arith, before, now))
    (λ last. let now = used-number a.q a.p a.q (a.d + a.p) (ok.periods + 1) some (omega arith) (omega arith) (omega (arith, ok.deadline)) in
    omega (arith, before, now, ok.some))

-- ---- at tick 0

pub awake-is : (task : Params) → awake task ≡ due_by task task.period
awake-is task =
    let fresh : wakes_fresh 0 (begun task.budget task.period) ≡ true = grind (arith, nat_tests) in
    let at : 0 + task.period ≡ task.period = omega arith in
    rw (fresh, at) refl

pub busy-awake : (h : ℕ) (task : Params) → task.period * (h / task.period) ≡ h → IsEligible h task → IsBusy h (awake task)
busy-awake h task whole ok =
    rw (awake-is task) (record {
      asked = ok.budgeted;
      within = ok.within;
      whole = whole;
      some = ok.budgeted;
      most = omega arith;
      periods = 1;
      deadline = omega arith;
      first = omega arith;
    })

pub used-awake : (task : Params) → 1 ≤ task.budget → task.budget ≤ task.period → used (awake task) ≡ 0
used-awake task asked within =
    let number = used-number task.budget task.period task.budget task.period 1 (omega arith) (omega arith) (omega arith) (omega arith) in
    rw (awake-is task) (omega (arith, number))

pub share-awake : (h : ℕ) (task : Params) → share h (awake task) ≡ weight_of h task
share-awake h task = rw (awake-is task) refl
