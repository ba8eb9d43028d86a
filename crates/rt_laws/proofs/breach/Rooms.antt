-- The room that servers need to run, and the bounds of what is spent.
use Rattle.rt_laws.proofs.Common.{◌≡◌, ℕ, ◌+◌, ◌-◌, ◌*◌, ◌/◌, ◌<◌, ◌≤◌, List, [], ◌∷◌, map, take, length, get_or, All, refl, inl, inr, arith, mul-le-mul_left, mul-le-mul_right, mul-div-le, cases_lt, All-head, All-tail, sum_by-cons, Params, IsOverloaded, weight_of, total_weight, Account, past, spent_times, HasRoom}
use Rattle.std.proofs.Common.{◌^◌, sum_by}
use Rattle.std.proofs.Math.Nat.{mul-le-mul, div-eq_of_lt}
use Rattle.std.proofs.lemmas.List.Elements.{All-map}
use Rattle.std.proofs.lemmas.List.Sums.{sum_by-le, sum_by_more_le}
use Rattle.rt_admit.proofs.WeightLemmas.{eligible-within}
use Rattle.rt_laws.specs.breach.Working.Budget.{IsGranted}
use Rattle.rt_laws.proofs.breach.Budgets.{times-less, times-all}
use Rattle.rt_laws.proofs.breach.Skips.{granted}

-- ---- what is spent up to a tick

pub weight-within : (e : ℕ) (x : Params) → IsGranted x → weight_of e x ≤ e
weight-within e x ok = omega (arith, mul-le-mul_right (e / x.period) ok.within, mul-div-le e x.period)

pub spent-fits : (e : ℕ) (tasks : List Params) (i : ℕ) (d : Params) → e ≤ 4194304 → length tasks ≤ 64 → All IsGranted tasks → i < length tasks
    → sum_by (weight_of e) (take i tasks) + weight_of e (get_or tasks i d) < 2 ^ 32
spent-fits e tasks i d bounded few ok below =
    let part = sum_by_more_le (weight_of e) tasks i d below in
    let whole : total_weight e tasks ≤ length tasks * e = sum_by-le (weight_of e) e tasks (λ k x l. weight-within e (get_or tasks k x) (ok k x l)) in
    let most : length tasks * e ≤ 64 * 4194304 = mul-le-mul few bounded in
    omega (arith, part, whole, most)

pub none-spent : (tasks : List Params) → All IsGranted tasks → total_weight 0 tasks ≡ 0
none-spent [] ok = refl
none-spent (x ∷ tasks) ok =
    let it = All-head IsGranted x tasks ok in
    let none : 0 / x.period ≡ 0 = div-eq_of_lt (omega (arith, it.asked, it.within)) in
    let nothing : x.budget * (0 / x.period) ≡ 0 = rw none (omega arith) in
    rw sum_by-cons (omega (arith, nothing, none-spent tasks (All-tail IsGranted x tasks ok)))

-- ---- room

-- in numbers
past-number : (e p k n : ℕ) → p * k ≤ e → p ≤ 4194304 → e ≤ 4194304 → n ≤ 4194304 → p * (k + 1) + p * n < 2 ^ 64
past-number e p k n low short soon few =
    let most : p * n ≤ 4194304 * 4194304 = mul-le-mul short few in
    omega (arith, most)

pub room-past : (n e : ℕ) (x : Params) → IsGranted x → x.period ≤ 4194304 → e ≤ 4194304 → n ≤ 4194304 → HasRoom n (past e x)
room-past n e x ok short soon few = record {
  asked = ok.asked;
  some = ok.asked;
  room = past-number e x.period (e / x.period) n (mul-div-le e x.period) short soon few;
}

pub room-less : (m n : ℕ) (a : Account) → m ≤ n → HasRoom n a → HasRoom m a
room-less m n a low ok =
    let less : a.p * m ≤ a.p * n = mul-le-mul_left a.p low in
    record { asked = ok.asked; some = ok.some; room = omega (arith, less, ok.room) }

room-number : (d p k n : ℕ) → 1 ≤ k → k ≤ n → d + p * n < 2 ^ 64 → (d + p) + p * (n - k) < 2 ^ 64
room-number d p k n some low room =
    let back : (n - k) + 1 ≤ n = omega arith in
    let less : p * ((n - k) + 1) ≤ p * n = mul-le-mul_left p back in
    omega (arith, less)

-- after k of n ticks
pub room-spent : (k n : ℕ) (a : Account) → k ≤ a.c → k ≤ n → HasRoom n a → HasRoom (n - k) (spent_times k a)
room-spent k n a within low ok =
    elim (cases_lt k a.c) [
      | inl less ↦
          let left : a.p * (n - k) ≤ a.p * n = mul-le-mul_left a.p (omega arith) in
          rw (times-less k a less) (record { asked = ok.asked; some = omega arith; room = omega (arith, left, ok.room) })
      | inr all ↦
          rw (times-all k a (omega arith) (omega (arith, ok.some)))
          (record { asked = ok.asked; some = ok.asked; room = room-number a.d a.p k n (omega (arith, ok.some)) low ok.room })
    ]

-- one tick of room
pub room-next : (n : ℕ) (a : Account) → 1 ≤ n → HasRoom n a → a.d + a.p < 2 ^ 64
room-next n a some ok =
    let one : a.p * 1 ≤ a.p * n = mul-le-mul_left a.p some in
    omega (arith, one, ok.room)

-- the servers of an overloaded set have room for what is left of the hyperperiod
pub all-room : (n h e : ℕ) (tasks : List Params) → IsOverloaded h tasks → e ≤ h → n ≤ h → All (HasRoom n) (map (past e) tasks)
all-room n h e tasks over soon few =
    All-map (HasRoom n) (past e) tasks
    (λ k d below.
    let it = over.eligible k d below in
    let short = eligible-within h (get_or tasks k d) over.hyper_positive it in
    room-past n e (get_or tasks k d) (granted h tasks over.eligible k d below) (omega (arith, short, over.hyper_bounded)) (omega (arith, over.hyper_bounded)) (omega (arith, over.hyper_bounded)))
