-- Many executed ticks at once: what they leave of an account.
use Rattle.std.proofs.Common.{◌≡◌, ℕ, zero, suc, ◌+◌, ◌-◌, ◌*◌, ◌<◌, ◌≤◌, max, refl, ap, ◌∙◌, arith}
use Rattle.std.proofs.lemmas.Bool.Decides.{nat_tests}
use Rattle.rt_server.specs.Account.{Account}
use Rattle.rt_server.specs.Recharge.{spent, spent_for, used_up_for}

-- what n ticks leave, and how many of them used the budget up
record Leaves (n k : ℕ) (s r : Account) : Type 0 where
  pub account : spent_for n s ≡ r
  pub times : used_up_for n s ≡ k

-- the same in two parts
Leaves-then : (m n j k : ℕ) (s r z : Account) → Leaves m j s r → Leaves n k r z → Leaves (m + n) (j + k) s z
unfolding spent_for used_up_for
Leaves-then m zero j k s r z first last =
    let same : r ≡ z = last.account in
    let at : m + zero ≡ m = omega arith in
    let none : j + k ≡ j = omega (arith, last.times) in
    rw (at, none) (record { account = first.account ∙ same; times = first.times })
Leaves-then m (suc n) j k s r z first last =
    let before = Leaves-then m n j (used_up_for n r) s r (spent_for n r) first (record { account = refl; times = refl }) in
    let at : m + suc n ≡ suc (m + n) = omega arith in
    rw at (record {
      account = ap spent before.account ∙ last.account;
      times = rw (before.account, before.times) (omega (arith, last.times));
    })

-- within the current budget
Leaves-within : (n : ℕ) (s : Account) → n < max s.c 1 → Leaves n 0 s (record s { c = s.c - n })
unfolding spent_for used_up_for
Leaves-within zero s less = record { account = grind arith; times = refl }
Leaves-within (suc n) s less =
    let before = Leaves-within n s (omega arith) in
    record {
      account = ap spent before.account ∙ grind (arith, nat_tests);
      times = rw (before.account, before.times) (grind (arith, nat_tests));
    }

-- all that is left
Leaves-all : (s : Account) → Leaves (max s.c 1) 1 s (record s { c = s.q; d = s.d + s.p })
unfolding spent_for used_up_for
Leaves-all s =
    let n = max s.c 1 - 1 in
    let before = Leaves-within n s (omega arith) in
    let at : max s.c 1 ≡ suc n = omega arith in
    rw at (record {
      account = ap spent before.account ∙ grind (arith, nat_tests);
      times = rw (before.account, before.times) (grind (arith, nat_tests));
    })

-- m whole budgets
Leaves-budgets : (m : ℕ) (s : Account) → 1 ≤ s.q → s.c ≡ s.q → Leaves (m * s.q) m s (record s { d = s.d + s.p * m })
unfolding spent_for used_up_for
Leaves-budgets zero s positive all =
    let none : zero * s.q ≡ 0 = grind arith in
    let still : s ≡ record s { d = s.d + s.p * zero } = grind arith in
    rw none (record { account = still; times = refl })
Leaves-budgets (suc m) s positive all =
    let before = Leaves-budgets m s positive all in
    let left : Account = record s { d = s.d + s.p * m } in
    let one = Leaves-all left in
    let size : max left.c 1 ≡ s.q = omega (arith, all) in
    let n : m * s.q + max left.c 1 ≡ suc m * s.q = rw size (grind arith) in
    let k : m + 1 ≡ suc m = omega arith in
    let z : record left { c = left.q; d = left.d + left.p } ≡ record s { d = s.d + s.p * (m + 1) } = grind arith in
    rw (← n, ← k, ← z) (Leaves-then (m * s.q) (max left.c 1) m 1 s left (record left { c = left.q; d = left.d + left.p }) before one)

pub spends-within : (n : ℕ) (s : Account) → n < max s.c 1 → (spent_for n s ≡ record s { c = s.c - n }) × (used_up_for n s ≡ 0)
spends-within n s less = let it = Leaves-within n s less in (it.account, it.times)

-- what is left, m whole budgets, and r ticks of the next
pub spends-over : (n m r : ℕ) (s : Account) → 1 ≤ s.q → max s.c 1 ≤ n → n - max s.c 1 ≡ m * s.q + r → r < s.q
    → (spent_for n s ≡ record s { c = s.q - r; d = s.d + s.p * (m + 1) }) × (used_up_for n s ≡ m + 1)
spends-over n m r s positive over is rest =
    let first : Account = record s { c = s.q; d = s.d + s.p } in
    let second : Account = record first { d = first.d + first.p * m } in
    let third : Account = record second { c = second.c - r } in
    let begins = Leaves-then (max s.c 1) (m * s.q) 1 m s first second (Leaves-all s) (Leaves-budgets m first positive refl) in
    let ends = Leaves-then (max s.c 1 + m * s.q) r (1 + m) 0 s second third begins (Leaves-within r second (omega arith)) in
    let at : max s.c 1 + m * s.q + r ≡ n = omega arith in
    let account : spent_for (max s.c 1 + m * s.q + r) s ≡ record s { c = s.q - r; d = s.d + s.p * (m + 1) } = ends.account ∙ grind arith in
    (rw (← at) account, rw (← at) (ends.times ∙ omega arith))

-- all that is left, and no more
pub spends-all : (s : Account) → (spent_for (max s.c 1) s ≡ record s { c = s.q; d = s.d + s.p }) × (used_up_for (max s.c 1) s ≡ 1)
spends-all s = let it = Leaves-all s in (it.account, it.times)
