-- Lemmas on the weights of eligible tasks.
use Rattle.std.proofs.Common.{◌≡◌, ℕ, zero, suc, ◌+◌, ◌*◌, ◌/◌, ◌<◌, ◌≤◌, ◌^◌, List, length, take, get_or, All, sum_by, arith}
use Rattle.std.proofs.Math.Nat.{mul-le-mul_right, mul-div-le, mul-le-mul, div-add-mod}
use Rattle.std.proofs.lemmas.List.Sums.{sum_by-le, sum_by_more_le}
use Rattle.rt_admit.specs.declared.params.Params.{Params}
use Rattle.rt_admit.specs.Admission.{IsEligible}
use Rattle.rt_admit.specs.Weight.{weight_of, total_weight}

-- a factor of a positive product is within it
one_of_whole : (p m h : ℕ) → 1 ≤ h → p * m ≡ h → p ≤ h
one_of_whole p zero h positive whole = omega arith
one_of_whole p (suc m) h positive whole = omega arith

-- Q / P is (Q * m) / H where H is P * m
share_of_whole : (q p m h : ℕ) → p * m ≡ h → q * h ≡ (q * m) * p
share_of_whole q p m h whole = rw (← whole) (omega arith)

-- the period of an eligible task goes into the hyperperiod without a rest
pub eligible-whole : (hyper : ℕ) (task : Params) → IsEligible hyper task → task.period * (hyper / task.period) ≡ hyper
eligible-whole hyper task ok = omega (arith, div-add-mod hyper task.period, ok.divides)

-- so it is within a positive hyperperiod
pub eligible-within : (hyper : ℕ) (task : Params) → 1 ≤ hyper → IsEligible hyper task → task.period ≤ hyper
eligible-within hyper task positive ok = one_of_whole task.period (hyper / task.period) hyper positive (eligible-whole hyper task ok)

-- the budget's share of a period is the weight's share of the hyperperiod
pub eligible-share : (hyper : ℕ) (task : Params) → IsEligible hyper task → task.budget * hyper ≡ weight_of hyper task * task.period
eligible-share hyper task ok = share_of_whole task.budget task.period (hyper / task.period) hyper (eligible-whole hyper task ok)

-- an eligible task weighs at most the hyperperiod
pub weight_of-le : (hyper : ℕ) (task : Params) → IsEligible hyper task → weight_of hyper task ≤ hyper
weight_of-le hyper task ok =
    omega (arith, mul-le-mul_right (hyper / task.period) ok.within, mul-div-le hyper task.period)

-- a part of the weights of up to 64 eligible tasks, and one more, fits 32 bits
pub weights_fit : (hyper : ℕ) (tasks : List Params) (i : ℕ) (d : Params) → hyper ≤ 4194304 → length tasks ≤ 64 →
    All (IsEligible hyper) tasks → i < length tasks →
    sum_by (weight_of hyper) (take i tasks) + weight_of hyper (get_or tasks i d) < 2 ^ 32
weights_fit hyper tasks i d bounded few ok h =
    let part = sum_by_more_le (weight_of hyper) tasks i d h in
    let whole : total_weight hyper tasks ≤ length tasks * hyper =
    sum_by-le (weight_of hyper) hyper tasks (λ k e l. weight_of-le hyper (get_or tasks k e) (ok k e l)) in
    let most : length tasks * hyper ≤ 64 * 4194304 = mul-le-mul few bounded in
    omega (arith, part, whole, most)
