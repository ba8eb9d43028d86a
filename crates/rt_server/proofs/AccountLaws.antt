-- Laws of one account over the three rules, for the proofs of other crates.
use Rattle.std.proofs.Common.{◌≡◌, ℕ, ◌+◌, ◌*◌, ◌≤◌, cond, arith}
use Rattle.std.proofs.lemmas.Bool.Decides.{nat_tests}
use Rattle.rt_server.specs.Account.{Account, coming}
use Rattle.rt_server.specs.Arrival.{wakes_fresh, woken}
use Rattle.rt_server.specs.Recharge.{spent, yielded}

-- after each wake there is current budget to spend
pub wake_gives_budget : (t : ℕ) (s : Account) → 1 ≤ s.q → 1 ≤ coming s → (s.c ≡ 0 → s.d ≡ 0) → 1 ≤ (woken t s).c
wake_gives_budget t s granted comes never_woken = grind (arith, nat_tests)

-- a wake at t keeps the bound of the deadline for tick t
pub wake_bounds_deadline : (t : ℕ) (s : Account) → 1 ≤ s.p → s.d ≤ s.p * (t + 1) → (woken t s).d ≤ s.p * (t + 1)
wake_bounds_deadline t s positive bounded = grind (arith, nat_tests)

-- a tick moves the bound to that of the next tick
pub spend_bounds_deadline : (t : ℕ) (s : Account) → s.d ≤ s.p * (t + 1) → (spent s).d ≤ s.p * (t + 2)
spend_bounds_deadline t s bounded = grind (arith, nat_tests)

pub yield_bounds_deadline : (t : ℕ) (s : Account) → s.d ≤ s.p * (t + 1) → (yielded s).d ≤ s.p * (t + 2)
yield_bounds_deadline t s bounded = grind (arith, nat_tests)

-- the current budget stays within the budget
pub wake_bounds_budget : (t : ℕ) (s : Account) → s.c ≤ s.q → (woken t s).c ≤ (woken t s).q
wake_bounds_budget t s bounded = grind (arith, nat_tests)

pub spend_bounds_budget : (s : Account) → s.c ≤ s.q → (spent s).c ≤ (spent s).q
spend_bounds_budget s bounded = grind (arith, nat_tests)

pub yield_bounds_budget : (s : Account) → s.c ≤ s.q → (yielded s).c ≤ (yielded s).q
yield_bounds_budget s bounded = grind (arith, nat_tests)

-- the period stays, and a wake takes the coming budget where it is fresh
pub wake_grants : (t : ℕ) (s : Account) → ((woken t s).q ≡ cond (wakes_fresh t s) (coming s) s.q) × ((woken t s).p ≡ s.p)
wake_grants t s = (grind (arith, nat_tests), grind (arith, nat_tests))

pub spend_keeps_grants : (s : Account) → ((spent s).q ≡ s.q) × ((spent s).p ≡ s.p)
spend_keeps_grants s = (grind (arith, nat_tests), grind (arith, nat_tests))

pub yield_keeps_grants : (s : Account) → ((yielded s).q ≡ s.q) × ((yielded s).p ≡ s.p)
yield_keeps_grants s = (grind (arith, nat_tests), grind (arith, nat_tests))

-- a charge keeps what is pending
pub spend_keeps_coming : (s : Account) → coming (spent s) ≡ coming s
spend_keeps_coming s = grind (arith, nat_tests)

pub yield_keeps_coming : (s : Account) → coming (yielded s) ≡ coming s
yield_keeps_coming s = grind (arith, nat_tests)
