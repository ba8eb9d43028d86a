-- Servers that are always busy, tick by tick: each tick is spent by one, so what all have used is the number of ticks.
use Rattle.rt_laws.proofs.Common.{◌≡◌, ℕ, zero, suc, ◌+◌, ◌≤◌, List, [], ◌∷◌, map, length, slice_get, slice_set, All, Option, Some, None, refl, sym, ap, subst, ◌∙◌, arith, All-head, All-tail, sum_by-cons, Params, IsEligible, IsOverloaded, total_weight, Account, spent, Fits, key_at, IsLeast, awake, deadline, next_server, after_tick, after_ticks, busy_servers}
use Rattle.rt_admit.proofs.WeightLemmas.{eligible-whole}
use Rattle.rt_queue.proofs.LeastLemmas.{IsLeast-of_least_from}
use Rattle.rt_laws.specs.Working.BusyServers.{spent_for, spent_in}
use Rattle.rt_laws.proofs.Totals.{total, total-set, total-set_same, Each, Each-at, Each-set}
use Rattle.rt_laws.proofs.Accounts.{share, spent-share}
use Rattle.rt_laws.proofs.BusyServers.{IsBusy, used, fits-used, busy-spent, used-spent, busy-awake, used-awake, share-awake}

-- ---- the server that runs

key-there : (accounts : List Account) (i d : ℕ) → key_at (map deadline accounts) i ≡ Some d → (a : Account) × (slice_get accounts i ≡ Some a)
key-there [] i d there = absurd cc
key-there (x ∷ accounts) zero d there = (x, refl)
key-there (x ∷ accounts) (suc i) d there = key-there accounts i d there

pub next-there : (accounts : List Account) (least : ℕ × ℕ) → next_server accounts ≡ Some least → (a : Account) × (slice_get accounts least.1 ≡ Some a)
next-there accounts least is =
    let first : IsLeast (map deadline accounts) (Some least) = IsLeast-of_least_from (map deadline accounts) (Some least) (sym is) in
    key-there accounts least.1 least.0 first.0

pub next-some : (accounts : List Account) (r : Option (ℕ × ℕ)) → 1 ≤ length accounts → next_server accounts ≡ r → (least : ℕ × ℕ) × (r ≡ Some least)
next-some [] r some is = absurd (omega arith)
next-some (x ∷ accounts) None some is =
    let none : IsLeast (map deadline (x ∷ accounts)) None = IsLeast-of_least_from (map deadline (x ∷ accounts)) None (sym is) in
    absurd (let it = none 0 in cc)
next-some (x ∷ accounts) (Some least) some is = (least, refl)

length-spent : (accounts : List Account) (i : ℕ) (a : Account) → length (slice_set accounts i a) ≡ length accounts
length-spent [] i a = refl
length-spent (x ∷ accounts) zero a = refl
length-spent (x ∷ accounts) (suc i) a = ap suc (length-spent accounts i a)

-- ---- a tick

-- where the server with this number and account spends
pub tick-is : (accounts : List Account) (least : ℕ × ℕ) (a : Account) → next_server accounts ≡ Some least → slice_get accounts least.1 ≡ Some a
    → after_tick accounts ≡ slice_set accounts least.1 (spent a)
tick-is accounts least a is there = ap (spent_in accounts) is ∙ ap (spent_for accounts least.1) there

-- how the servers stand after n ticks, of which each was spent by one
pub record Ran (h n w : ℕ) (accounts : List Account) : Type 0 where
  pub some : 1 ≤ length accounts
  pub busy : Each (IsBusy h) accounts
  pub used : total used accounts ≡ n
  pub shares : total (share h) accounts ≡ w

ran-set : (h n w : ℕ) (accounts : List Account) (i : ℕ) (a : Account) → Ran h n w accounts → slice_get accounts i ≡ Some a → Ran h (n + 1) w (slice_set accounts i (spent a))
ran-set h n w accounts i a ok there =
    let it = Each-at (IsBusy h) accounts i a there ok.busy in
    record {
      some = omega (arith, length-spent accounts i (spent a), ok.some);
      busy = Each-set (IsBusy h) accounts i (spent a) (busy-spent h a it) ok.busy;
      used = total-set used 1 accounts i a (spent a) there (used-spent h a it) ∙ ap (λ x. x + 1) ok.used;
      shares = omega (arith, total-set_same (share h) accounts i a (spent a) there (spent-share h a), ok.shares);
    }

ran-tick : (h n w : ℕ) (accounts : List Account) → Ran h n w accounts → Ran h (n + 1) w (after_tick accounts)
ran-tick h n w accounts ok =
    let least = next-some accounts (next_server accounts) ok.some refl in
    let there = next-there accounts least.0 least.1 in
    rw (tick-is accounts least.0 there.0 least.1 there.1) (ran-set h n w accounts least.0.1 there.0 ok there.1)

ran-ticks : (h w n : ℕ) (accounts : List Account) → Ran h 0 w accounts → Ran h n w (after_ticks n accounts)
unfolding after_ticks
ran-ticks h w zero accounts ok = ok
ran-ticks h w (suc n) accounts ok =
    let next : n + 1 ≡ suc n = omega arith in
    subst (λ m. Ran h m w (after_tick (after_ticks n accounts))) next (ran-tick h n w (after_ticks n accounts) (ran-ticks h w n accounts ok))

-- ---- the first tick

awake-busy : (h : ℕ) (tasks : List Params) → All (IsEligible h) tasks → Each (IsBusy h) (map awake tasks)
awake-busy h [] ok = tt
awake-busy h (x ∷ tasks) ok =
    let it = All-head (IsEligible h) x tasks ok in
    (busy-awake h x (eligible-whole h x it) it, awake-busy h tasks (All-tail (IsEligible h) x tasks ok))

awake-used : (h : ℕ) (tasks : List Params) → All (IsEligible h) tasks → total used (map awake tasks) ≡ 0
awake-used h [] ok = refl
awake-used h (x ∷ tasks) ok =
    let it = All-head (IsEligible h) x tasks ok in
    omega (arith, used-awake x it.budgeted it.within, awake-used h tasks (All-tail (IsEligible h) x tasks ok))

awake-shares : (h : ℕ) (tasks : List Params) → total (share h) (map awake tasks) ≡ total_weight h tasks
awake-shares h [] = refl
awake-shares h (x ∷ tasks) = rw sum_by-cons (omega (arith, share-awake h x, awake-shares h tasks))

length-awake : (tasks : List Params) → length (map awake tasks) ≡ length tasks
length-awake [] = refl
length-awake (x ∷ tasks) = ap suc (length-awake tasks)

-- the servers of eligible tasks after n ticks
pub ran-busy : (h n : ℕ) (tasks : List Params) → 1 ≤ length tasks → All (IsEligible h) tasks → Ran h n (total_weight h tasks) (busy_servers tasks n)
ran-busy h n tasks some ok =
    ran-ticks h (total_weight h tasks) n (map awake tasks) (record {
      some = omega (arith, length-awake tasks);
      busy = awake-busy h tasks ok;
      used = awake-used h tasks ok;
      shares = awake-shares h tasks;
    })

-- ---- after the hyperperiod

fit-and-busy : (h : ℕ) (accounts : List Account) → Each (IsBusy h) accounts → All (Fits h) accounts → total (share h) accounts ≤ total used accounts
fit-and-busy h [] ok fits = omega arith
fit-and-busy h (x ∷ accounts) ok fits =
    omega (arith, fits-used h x ok.0 (All-head (Fits h) x accounts fits), fit-and-busy h accounts ok.1 (All-tail (Fits h) x accounts fits))

-- the servers of an overloaded set don't all fit
pub one_exceeds : (h : ℕ) (tasks : List Params) → IsOverloaded h tasks → All (Fits h) (busy_servers tasks h) → ⊥
one_exceeds h tasks over fits =
    let ran = ran-busy h h tasks over.nonempty over.eligible in
    let low = fit-and-busy h (busy_servers tasks h) ran.busy fits in
    omega (arith, low, ran.used, ran.shares, over.overload)
