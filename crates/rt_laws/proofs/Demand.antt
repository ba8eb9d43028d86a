-- Demand in plain numbers. All is times the hyperperiod h, so that no share of it is a fraction: a server of weight w, budget q
-- and period p has q * h = w * p. Over the ticks from t to D a weight of w may take w * (D - t).
use Rattle.rt_laws.proofs.Common.{◌≡◌, ℕ, ◌+◌, ◌-◌, ◌*◌, ◌<◌, ◌≤◌, nat_le, arith, nat_tests, mul-le-mul_right}
use Rattle.std.proofs.Common.{min, if◌then◌else◌}
use Rattle.std.proofs.Math.Nat.{le_of_mul-le-mul_right}

-- what an active server of current budget c and deadline d may take up to D
abbrev pub live : ℕ → ℕ → ℕ → ℕ → ℕ → ℕ
live c d w h D = if nat_le d D then (c * h + w * D) - w * d else 0

-- what a server that isn't active at t may take
abbrev pub rest : ℕ → ℕ → ℕ → ℕ → ℕ → ℕ → ℕ
rest c d w h t D = min (w * D - w * t) ((c * h + w * D) - w * d)

-- a tick later it is no more
pub rest-passes : (c d w h t D : ℕ) → rest c d w h (t + 1) D ≤ rest c d w h t D
rest-passes c d w h t D = grind (arith, nat_tests)

-- a tick that is spent takes h
pub takes : (c d w h D : ℕ) → 1 ≤ c → d ≤ D → live (c - 1) d w h D + h ≤ live c d w h D
takes c d w h D some due = grind (arith, nat_tests)

pub takes-rest : (c d w h t D : ℕ) → 1 ≤ c → d ≤ D → rest (c - 1) d w h t D + h ≤ live c d w h D
takes-rest c d w h t D some due = grind (arith, nat_tests)

-- so does one after which the budget is filled and the deadline is a period on, however much was left
pub takes_all : (q p c d w h D : ℕ) → q * h ≡ w * p → 1 ≤ c → d ≤ D → live q (d + p) w h D + h ≤ live c d w h D
takes_all q p c d w h D whole some due = grind (arith, nat_tests)

pub takes_all-rest : (q p c d w h t D : ℕ) → q * h ≡ w * p → 1 ≤ c → d ≤ D → rest q (d + p) w h t D + h ≤ live c d w h D
takes_all-rest q p c d w h t D whole some due = grind (arith, nat_tests)

-- one that isn't active, or whose deadline is past D, has no more than its weight's part
pub rest-small : (c d w h t D : ℕ) → t ≤ D → rest c d w h t D + w * t ≤ w * D
rest-small c d w h t D early = grind (arith, nat_tests)

pub live-small : (c d w h t D : ℕ) → t ≤ D → D < d → live c d w h D + w * t ≤ w * D
live-small c d w h t D early past = grind (arith, nat_tests)

-- a fresh wake that takes the budget x, whose weight is v
pub fresh : (x p v c d w h t D : ℕ) → x * h ≡ v * p → d * w ≤ c * h + t * w → t ≤ D
    → live x (t + p) v h D + w * D + v * t ≤ rest c d w h t D + v * D + w * t
fresh x p v c d w h t D whole late early = grind (arith, nat_tests)

-- a wake that keeps budget and deadline
pub kept : (c d w h t D : ℕ) → c * h + t * w ≤ d * w → t ≤ D → live c d w h D ≤ rest c d w h t D
kept c d w h t D soon early = grind (arith, nat_tests)

-- up to its deadline an active server has its current budget
pub live-whole : (c d w h : ℕ) → live c d w h d ≡ c * h
live-whole c d w h = grind (arith, nat_tests)

-- ---- from a period to the hyperperiod

pub scaled-late : (p m h d q c t : ℕ) → p * m ≡ h → d * q ≤ c * p + t * q → d * (q * m) ≤ c * h + t * (q * m)
scaled-late p m h d q c t whole late = rw (← whole) (omega (arith, mul-le-mul_right m late))

pub scaled-soon : (p m h d q c t : ℕ) → p * m ≡ h → c * p + t * q < d * q → c * h + t * (q * m) ≤ d * (q * m)
scaled-soon p m h d q c t whole soon =
    let low : c * p + t * q ≤ d * q = omega arith in
    rw (← whole) (omega (arith, mul-le-mul_right m low))

pub scaled-budget : (x p m h : ℕ) → p * m ≡ h → x * h ≡ x * m * p
scaled-budget x p m h whole = rw (← whole) (omega arith)

-- ---- from demand to ticks

ahead : (c h W x t : ℕ) → c * h + W * t ≤ W * (x + t) → W ≤ h → 1 ≤ h → c ≤ x
ahead c h W x t room load some = le_of_mul-le-mul_right {k = h} (omega (arith, room, mul-le-mul_right x load)) some

-- what fits the ticks up to d as a part of the whole's demand, fits as ticks
pub fits-within : (c h W d t : ℕ) → c * h + W * t ≤ W * d → W ≤ h → 1 ≤ h → t ≤ d → t + c ≤ d
fits-within c h W d t room load some early =
    let apart : (d - t) + t ≡ d = omega arith in
    let fits : c ≤ d - t = ahead c h W (d - t) t (rw apart room) load some in
    omega arith
