-- Budgets go by deadline, then number: the servers come to each moment at which all budgets with a deadline up to e are spent, and no other.
use Rattle.rt_laws.proofs.Common.{◌≡◌, ℕ, zero, suc, ◌+◌, ◌-◌, ◌*◌, ◌/◌, ◌<◌, ◌≤◌, nat_lt, Bool, true, false, cond, List, [], ◌∷◌, map, length, slice_get, slice_set, All, Some, refl, sym, ap, subst, ◌∙◌, ◌⊎◌, inl, inr, arith, mul-le-mul_left, mul-div-le, cases_lt, ltb-false, nat_tests, All-head, All-tail, sum_by-cons, Params, IsEligible, IsOverloaded, total_weight, Account, key_at, IsLeast, awake, deadline, next_server, after_ticks, busy_servers, past, spent_times}
use Rattle.std.proofs.Common.{if◌then◌else◌}
use Rattle.std.proofs.Math.Nat.{lt-mul-div-succ, div-eq_of_lt}
use Rattle.rt_queue.specs.Order.{NotAfter}
use Rattle.rt_queue.proofs.LeastLemmas.{least_from-is_least}
use Rattle.rt_laws.specs.Working.BusyServers.{due_by}
use Rattle.rt_laws.proofs.Totals.{total}
use Rattle.rt_laws.proofs.BusyServers.{used, used-number, awake-is}
use Rattle.rt_laws.proofs.BusyRuns.{ran-busy}
use Rattle.rt_laws.specs.breach.Working.Budget.{IsGranted}
use Rattle.rt_laws.proofs.breach.Budgets.{set-same, after-times, after-add, after-none, times-all}

-- ---- one server

-- the next deadline is e + 1, or it is later and stays
next-cases : (e p : ℕ) → 1 ≤ p → ((p * (e / p + 1) ≡ e + 1) × ((e + 1) / p ≡ e / p + 1)) ⊎ ((e + 1 < p * (e / p + 1)) × ((e + 1) / p ≡ e / p))
next-cases e p some =
    let low : p * (e / p) ≤ e = mul-div-le e p in
    let high : e < p * (e / p + 1) = lt-mul-div-succ e some in
    let low' : p * ((e + 1) / p) ≤ e + 1 = mul-div-le (e + 1) p in
    let high' : e + 1 < p * ((e + 1) / p + 1) = lt-mul-div-succ (e + 1) some in
    elim (cases_lt (e + 1) (p * (e / p + 1))) [
      | inl before ↦ inr (before, quotient ((e + 1) / p) (e / p) p (e + 1) some low' high' (omega arith) before)
      | inr here ↦ inl (omega arith, quotient ((e + 1) / p) (e / p + 1) p (e + 1) some low' high' (omega arith) (omega arith))
    ]
  where
    below : (k m p n : ℕ) → p * k ≤ n → n < p * (m + 1) → k ≤ m
    below k m p n low high =
        elim (cases_lt m k) [ inl more ↦ absurd (let over : p * (m + 1) ≤ p * k = mul-le-mul_left p (omega arith) in omega arith) | inr most ↦ most ]

    quotient : (k m p n : ℕ) → 1 ≤ p → p * k ≤ n → n < p * (k + 1) → p * m ≤ n → n < p * (m + 1) → k ≡ m
    quotient k m p n some low high low' high' = omega (arith, below k m p n low high', below m k p n low' high)

past-later : (e : ℕ) (x : Params) → IsGranted x → e + 1 ≤ (past e x).d
past-later e x ok = let high : e < x.period * (e / x.period + 1) = lt-mul-div-succ e (omega (arith, ok.asked, ok.within)) in omega arith

-- its budget spent, it is past the next deadline
past-spent : (e : ℕ) (x : Params) → IsGranted x → (past e x).d ≡ e + 1 → spent_times x.budget (past e x) ≡ past (e + 1) x
past-spent e x ok here =
    elim (next-cases e x.period (omega (arith, ok.asked, ok.within))) [
      | inl it ↦ times-all x.budget (past e x) refl ok.asked
          ∙ ap (due_by x) (let d : x.period * (e / x.period + 1) + x.period ≡ x.period * ((e + 1) / x.period + 1) = rw it.1 (omega arith) in d)
      | inr it ↦ absurd (omega (arith, it.0))
    ]

-- ---- all of them

-- up to the number j all budgets with a deadline up to e + 1 are spent, from j on those with a deadline up to e
abbrev stood : ℕ → ℕ → ℕ → List Params → List Account
stood e j i [] = []
stood e j i (x ∷ tasks) = past (if nat_lt i j then e + 1 else e) x ∷ stood e j (i + 1) tasks

-- the key of each is later than that of the next to spend, whose number is j
stood-after : (e j i : ℕ) (tasks : List Params) → All IsGranted tasks → (n key : ℕ) → key_at (map deadline (stood e j i tasks)) n ≡ Some key → NotAfter (e + 1, j) (key, i + n)
stood-after e j i [] ok n key there = absurd cc
stood-after e j i (x ∷ tasks) ok zero key there =
    elim (nat_lt i j) as (λ b. nat_lt i j ≡ b → Some (past (cond b (e + 1) e) x).d ≡ Some key → NotAfter (e + 1, j) (key, i + zero)) [
      | true ↦ λ below is.
          let later = past-later (e + 1) x (All-head IsGranted x tasks ok) in
          let same : (past (e + 1) x).d ≡ key = cc in
          record { by_key = omega arith; by_number = λ tie. absurd (omega arith) }
      | false ↦ λ above is.
          let later = past-later e x (All-head IsGranted x tasks ok) in
          let same : (past e x).d ≡ key = cc in
          let at : j ≤ i = ltb-false i j above in
          record { by_key = omega arith; by_number = λ tie. omega arith }
    ] refl there
stood-after e j i (x ∷ tasks) ok (suc n) key there =
    let at : i + 1 + n ≡ i + suc n = omega arith in
    subst (λ m. NotAfter (e + 1, j) (key, m)) at (stood-after e j (i + 1) tasks (All-tail IsGranted x tasks ok) n key there)

-- the server j places behind the first of these, and these once it is past the next deadline
stood-at : (e i k : ℕ) (tasks : List Params) (x : Params) → slice_get tasks k ≡ Some x → slice_get (stood e (i + k) i tasks) k ≡ Some (past e x)
stood-at e i k [] x there = absurd cc
stood-at e i zero (y ∷ tasks) x there =
    let it : y ≡ x = cc in
    let not_below : nat_lt i (i + zero) ≡ false = grind (arith, nat_tests) in
    rw (not_below, it) refl
stood-at e i (suc k) (y ∷ tasks) x there =
    let at : i + suc k ≡ i + 1 + k = omega arith in
    subst (λ m. slice_get (stood e m (i + 1) tasks) k ≡ Some (past e x)) (sym at) (stood-at e (i + 1) k tasks x there)

stood-behind : (e j i : ℕ) (tasks : List Params) → j < i → stood e j i tasks ≡ stood e (j + 1) i tasks
stood-behind e j i [] below = refl
stood-behind e j i (x ∷ tasks) below =
    let a : nat_lt i j ≡ false = grind (arith, nat_tests) in
    let b : nat_lt i (j + 1) ≡ false = grind (arith, nat_tests) in
    rw (a, b, stood-behind e j (i + 1) tasks (omega arith)) refl

stood-set : (e i k : ℕ) (tasks : List Params) (x : Params) → slice_get tasks k ≡ Some x → slice_set (stood e (i + k) i tasks) k (past (e + 1) x) ≡ stood e (i + k + 1) i tasks
stood-set e i k [] x there = absurd cc
stood-set e i zero (y ∷ tasks) x there =
    let it : y ≡ x = cc in
    let below : nat_lt i (i + zero + 1) ≡ true = grind (arith, nat_tests) in
    let rest : stood e (i + zero) (i + 1) tasks ≡ stood e (i + zero + 1) (i + 1) tasks = stood-behind e (i + zero) (i + 1) tasks (omega arith) in
    rw (below, it, rest) refl
stood-set e i (suc k) (y ∷ tasks) x there =
    let at : i + suc k ≡ i + 1 + k = omega arith in
    let a : nat_lt i (i + suc k) ≡ true = grind (arith, nat_tests) in
    let b : nat_lt i (i + suc k + 1) ≡ true = grind (arith, nat_tests) in
    let rest : slice_set (stood e (i + suc k) (i + 1) tasks) k (past (e + 1) x) ≡ stood e (i + suc k + 1) (i + 1) tasks =
    subst (λ m. slice_set (stood e m (i + 1) tasks) k (past (e + 1) x) ≡ stood e (m + 1) (i + 1) tasks) (sym at) (stood-set e (i + 1) k tasks x there) in
    ap (λ (t : Bool). past (cond t (e + 1) e) y ∷ slice_set (stood e (i + suc k) (i + 1) tasks) k (past (e + 1) x)) a
    ∙ ap (λ (xs : List Account). past (e + 1) y ∷ xs) rest
    ∙ ap (λ (t : Bool). past (cond t (e + 1) e) y ∷ stood e (i + suc k + 1) (i + 1) tasks) (sym b)

-- ---- one after the other

-- after some ticks they stand so
abbrev Comes : List Account → List Account → Type 0
Comes first accounts = (n : ℕ) × (after_ticks n first ≡ accounts)

comes-next : (e j : ℕ) (tasks : List Params) (first : List Account) (x : Params) → All IsGranted tasks → IsGranted x → slice_get tasks j ≡ Some x
    → Comes first (stood e j 0 tasks) → Comes first (stood e (j + 1) 0 tasks)
comes-next e j tasks first x ok granted there now =
    let zero_more : 0 + j ≡ j = omega arith in
    let at : slice_get (stood e j 0 tasks) j ≡ Some (past e x) =
    subst (λ k. slice_get (stood e k 0 tasks) j ≡ Some (past e x)) zero_more (stood-at e 0 j tasks x there) in
    let done : slice_set (stood e j 0 tasks) j (past (e + 1) x) ≡ stood e (j + 1) 0 tasks =
    subst (λ k. slice_set (stood e k 0 tasks) j (past (e + 1) x) ≡ stood e (k + 1) 0 tasks) zero_more (stood-set e 0 j tasks x there) in
    elim (next-cases e x.period (omega (arith, granted.asked, granted.within))) [
      | inl here ↦
          let key : key_at (map deadline (stood e j 0 tasks)) j ≡ Some (e + 1) = key-of (stood e j 0 tasks) j (past e x) (e + 1) at here.0 in
          let least : IsLeast (map deadline (stood e j 0 tasks)) (Some (e + 1, j)) =
          (key, λ n k is. subst (λ m. NotAfter (e + 1, j) (k, m)) (let same : 0 + n ≡ n = omega arith in same) (stood-after e j 0 tasks ok n k is)) in
          let is : next_server (stood e j 0 tasks) ≡ Some (e + 1, j) = sym (least_from-is_least (map deadline (stood e j 0 tasks)) (Some (e + 1, j)) least) in
          let budget = after-times x.budget (stood e j 0 tasks) (e + 1, j) (past e x) is at (omega arith) in (
            x.budget + now.0,
            after-add x.budget now.0 first ∙ ap (after_ticks x.budget) now.1 ∙ budget
                ∙ ap (slice_set (stood e j 0 tasks) j) (past-spent e x granted here.0) ∙ done,
          )
      | inr later ↦
          let same : past e x ≡ past (e + 1) x = ap (λ (k : ℕ). due_by x (x.period * (k + 1))) (sym later.1) in
          let stays : stood e j 0 tasks ≡ stood e (j + 1) 0 tasks = sym (set-same (stood e j 0 tasks) j (past e x) at) ∙ ap (slice_set (stood e j 0 tasks) j) same ∙ done in
          (now.0, now.1 ∙ stays)
    ]
  where
    key-of : (accounts : List Account) (i : ℕ) (a : Account) (d : ℕ) → slice_get accounts i ≡ Some a → a.d ≡ d → key_at (map deadline accounts) i ≡ Some d
    key-of [] i a d there is = absurd cc
    key-of (y ∷ accounts) zero a d there is = let it : y ≡ a = cc in ap (λ (b : Account). Some b.d) it ∙ ap (λ n. Some n) is
    key-of (y ∷ accounts) (suc i) a d there is = key-of accounts i a d there is

there-is : (tasks : List Params) (j : ℕ) → All IsGranted tasks → j < length tasks → (x : Params) × (slice_get tasks j ≡ Some x) × IsGranted x
there-is [] j ok below = absurd (omega arith)
there-is (x ∷ tasks) zero ok below = (x, refl, All-head IsGranted x tasks ok)
there-is (x ∷ tasks) (suc j) ok below = there-is tasks j (All-tail IsGranted x tasks ok) (omega arith)

comes-all : (e j : ℕ) (tasks : List Params) (first : List Account) → All IsGranted tasks → j ≤ length tasks → Comes first (stood e 0 0 tasks) → Comes first (stood e j 0 tasks)
comes-all e zero tasks first ok within now = now
comes-all e (suc j) tasks first ok within now =
    let it = there-is tasks j ok (omega arith) in
    let at : j + 1 ≡ suc j = omega arith in
    subst (λ k. Comes first (stood e k 0 tasks)) at (comes-next e j tasks first it.0 ok it.2 it.1 (comes-all e j tasks first ok (omega arith) now))

stood-turn : (e n i : ℕ) (tasks : List Params) → i + length tasks ≤ n → stood e n i tasks ≡ map (past (e + 1)) tasks
stood-turn e n i [] within = refl
stood-turn e n i (x ∷ tasks) within =
    let below : nat_lt i n ≡ true = grind (arith, nat_tests) in
    rw (below, stood-turn e n (i + 1) tasks (omega arith)) refl

stood-begin : (e i : ℕ) (tasks : List Params) → stood e 0 i tasks ≡ map (past e) tasks
stood-begin e i [] = refl
stood-begin e i (x ∷ tasks) =
    let below : nat_lt i 0 ≡ false = grind (arith, nat_tests) in
    rw (below, stood-begin e (i + 1) tasks) refl

past-first : (x : Params) → IsGranted x → past 0 x ≡ awake x
past-first x ok =
    let none : 0 / x.period ≡ 0 = div-eq_of_lt (omega (arith, ok.asked, ok.within)) in
    let one : x.period * (0 / x.period + 1) ≡ x.period = rw none (omega arith) in
    ap (due_by x) one ∙ sym (awake-is x)

all-first : (tasks : List Params) → All IsGranted tasks → map awake tasks ≡ map (past 0) tasks
all-first [] ok = refl
all-first (x ∷ tasks) ok = rw (past-first x (All-head IsGranted x tasks ok), all-first tasks (All-tail IsGranted x tasks ok)) refl

-- busy servers come to each of these moments
comes : (e : ℕ) (tasks : List Params) → All IsGranted tasks → Comes (map awake tasks) (map (past e) tasks)
comes zero tasks ok = (0, after-none (map awake tasks) ∙ all-first tasks ok)
comes (suc e) tasks ok =
    let before = subst (Comes (map awake tasks)) (sym (stood-begin e 0 tasks)) (comes e tasks ok) in
    let turn : stood e (length tasks) 0 tasks ≡ map (past (e + 1)) tasks = stood-turn e (length tasks) 0 tasks (omega arith) in
    let at : e + 1 ≡ suc e = omega arith in
    subst (λ k. Comes (map awake tasks) (map (past k) tasks)) at
    (subst (Comes (map awake tasks)) turn (comes-all e (length tasks) tasks (map awake tasks) ok (omega arith) before))

-- ---- when that is

used-past : (e : ℕ) (x : Params) → IsGranted x → used (past e x) ≡ x.budget * (e / x.period)
used-past e x ok =
    let k = e / x.period in
    let number = used-number x.budget x.period x.budget (x.period * (k + 1)) (k + 1) (omega (arith, ok.asked, ok.within)) (omega arith) (omega arith) refl in
    omega (arith, number)

total-past : (e : ℕ) (tasks : List Params) → All IsGranted tasks → total used (map (past e) tasks) ≡ total_weight e tasks
total-past e [] ok = refl
total-past e (x ∷ tasks) ok =
    rw sum_by-cons (omega (arith, used-past e x (All-head IsGranted x tasks ok), total-past e tasks (All-tail IsGranted x tasks ok)))

pub granted : (h : ℕ) (tasks : List Params) → All (IsEligible h) tasks → All IsGranted tasks
granted h tasks ok k d below = let it = ok k d below in record { asked = it.budgeted; within = it.within }

-- what is left of the hyperperiod then leads to its end
pub skipped : (h e : ℕ) (tasks : List Params) → IsOverloaded h tasks → total_weight e tasks ≤ h
    → after_ticks (h - total_weight e tasks) (map (past e) tasks) ≡ busy_servers tasks h
skipped h e tasks over within =
    let ok = granted h tasks over.eligible in
    let way = comes e tasks ok in
    let ran = ran-busy h way.0 tasks over.nonempty over.eligible in
    let count : way.0 ≡ total_weight e tasks = sym ran.used ∙ ap (total used) way.1 ∙ total-past e tasks ok in
    let whole : (h - total_weight e tasks) + way.0 ≡ h = omega (arith, count) in
    ap (after_ticks (h - total_weight e tasks)) (sym way.1) ∙ sym (after-add (h - total_weight e tasks) way.0 (map awake tasks))
    ∙ ap (λ n. after_ticks n (map awake tasks)) whole
