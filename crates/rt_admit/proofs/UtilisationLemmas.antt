-- Lemmas that tie the sum of the weights to the utilisation.
use Rattle.std.proofs.Common.{◌≡◌, ℕ, ◌+◌, ◌*◌, ◌/◌, ◌≤◌, List, [], ◌∷◌, All, sym, ap, arith}
use Rattle.std.proofs.Math.Nat.{mul-le-mul_left, mul-le-mul_right, le_of_mul-le-mul_right, le_of_mul-le-mul_left}
use Rattle.std.proofs.lemmas.List.Elements.{All-head, All-tail}
use Rattle.std.proofs.lemmas.List.Sums.{sum_by-cons}
use Rattle.rt_admit.specs.declared.params.Params.{Params}
use Rattle.rt_admit.specs.Admission.{IsEligible}
use Rattle.rt_admit.specs.Weight.{weight_of, total_weight}
use Rattle.rt_admit.specs.Utilisation.{utilisation}
use Rattle.rt_admit.proofs.WeightLemmas.{eligible-whole}

-- one more fraction, scaled to the hyperperiod: q / p is (q * m) / h where h = p * m
scaled-sum : (q p m over under total h : ℕ) → h ≡ p * m → over * h ≡ under * total →
    (q * under + over * p) * h ≡ (p * under) * (q * m + total)
scaled-sum q p m over under total h whole rest =
    let first : q * under * h ≡ q * under * (p * m) = ap (λ x. q * under * x) whole in
    let others : over * h * p ≡ under * total * p = ap (λ x. x * p) rest in
    omega (arith, first, others)

-- a product of positive numbers is positive
positive-product : (a b : ℕ) → 1 ≤ a → 1 ≤ b → 1 ≤ a * b
positive-product a b one_a one_b = omega (arith, mul-le-mul_left a one_b)

-- the denominator of eligible tasks is positive
pub under-positive : (hyper : ℕ) (tasks : List Params) → All (IsEligible hyper) tasks → 1 ≤ (utilisation tasks).under
under-positive hyper [] ok = omega arith
under-positive hyper (task ∷ tasks) ok =
    let first = All-head (IsEligible hyper) task tasks ok in
    let rest = under-positive hyper tasks (All-tail (IsEligible hyper) task tasks ok) in
    positive-product task.period (utilisation tasks).under (omega (arith, first.budgeted, first.within)) rest

-- over / under is the sum of the weights over the hyperperiod
pub over-scaled : (hyper : ℕ) (tasks : List Params) → All (IsEligible hyper) tasks →
    (utilisation tasks).over * hyper ≡ (utilisation tasks).under * total_weight hyper tasks
over-scaled hyper [] ok = omega arith
over-scaled hyper (task ∷ tasks) ok =
    let first = All-head (IsEligible hyper) task tasks ok in
    let whole : hyper ≡ task.period * (hyper / task.period) = sym (eligible-whole hyper task first) in
    let rest = over-scaled hyper tasks (All-tail (IsEligible hyper) task tasks ok) in
    rw (sum_by-cons (weight_of hyper) task tasks)
    (scaled-sum task.budget task.period (hyper / task.period) _ _ _ hyper whole rest)

-- a / b is at most 1 where it is t / h, and t at most h
pub at_most_one : (over under total h : ℕ) → 1 ≤ h → over * h ≡ under * total → total ≤ h → over ≤ under
at_most_one over under total h positive e within =
    le_of_mul-le-mul_right {k = h} (omega (arith, mul-le-mul_left under within, e)) positive

-- t is at most h where t / h is a / b, and a at most b
pub within_whole : (over under total h : ℕ) → 1 ≤ under → over * h ≡ under * total → over ≤ under → total ≤ h
within_whole over under total h positive e one =
    le_of_mul-le-mul_left {k = under} (omega (arith, mul-le-mul_right h one, e)) positive
