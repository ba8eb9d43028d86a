-- Names are short, and lists of addresses are.
use Rattle.rt_profile.proofs.Common.{ℕ, suc, ◌+◌, ◌≤◌, ◌==◌, nat_lt, true, false, cond, List, [], ◌∷◌, length, Option, Some, None, arith, placed, executed_from, with_outside}

-- ---- addresses with ticks

executed-few : (a : ℕ) (ns : List ℕ) → length (executed_from a ns) ≤ length ns
executed-few a [] = omega arith
executed-few a (n ∷ ns) =
    let rest = executed-few (a + 4) ns in
    elim (n == 0) as (λ b. length (cond b (executed_from (a + 4) ns) (a ∷ executed_from (a + 4) ns)) ≤ suc (length ns)) [ true ↦ omega arith | false ↦ omega arith ]

placed-few : (a : ℕ) (bs : List ℕ) → length (placed a bs) ≤ length bs + 1
placed-few a [] = omega arith
placed-few a (b ∷ bs) =
    let rest = placed-few a bs in
    elim (nat_lt a b) as (λ c. length (cond c (a ∷ b ∷ bs) (cond (a == b) (b ∷ bs) (b ∷ placed a bs))) ≤ suc (length bs) + 1) [
      | true ↦ omega arith
      | false ↦ elim (a == b) as (λ c. length (cond c (b ∷ bs) (b ∷ placed a bs)) ≤ suc (length bs) + 1) [ true ↦ omega arith | false ↦ omega arith ]
    ]

pub length-executed : (outside : Option ℕ) (a : ℕ) (ns : List ℕ) → length (with_outside outside (executed_from a ns)) ≤ length ns + 1
length-executed None a ns = omega (arith, executed-few a ns)
length-executed (Some b) a ns = omega (arith, placed-few b (executed_from a ns), executed-few a ns)
