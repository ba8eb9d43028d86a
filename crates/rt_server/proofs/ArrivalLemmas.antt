-- Lemmas on the arrival test, over plain numbers.
use Rattle.std.proofs.Common.{◌≡◌, ℕ, ◌+◌, ◌-◌, ◌*◌, ◌<◌, ◌≤◌, nat_le, arith, inl, inr}
use Rattle.std.proofs.Common.{pos, negsuc, ◌-ℤ◌, ◌*ℤ◌, ◌≤ℤ◌, ◌↔◌}
use Rattle.std.proofs.lemmas.Int.{ints}
use Rattle.std.proofs.Math.IntN.{pos-*ℤ-pos, negsuc-*ℤ-pos}
use Rattle.std.proofs.Math.Nat.{mul-le-mul_left, mul-le-mul_right, le_of_lt}
use Rattle.std.proofs.lemmas.Bool.{cases_lt}
use Rattle.std.proofs.lemmas.Bool.Decides.{nat_tests}

-- the product of a difference, with the subtraction moved over
owed-sum : (x d t q : ℕ) → x + t ≡ d → x * q + t * q ≡ d * q
owed-sum x d t q e = rw (← e) (omega arith)

-- the test with the subtraction, which stops at 0, is the test without it
pub owed-test : (owed left d t q : ℕ) → owed ≡ (d - t) * q → nat_le owed left ≡ nat_le (d * q) (left + t * q)
owed-test owed left d t q e =
    elim (cases_lt t d) [
      | inl ahead ↦
          let apart : (d - t) + t ≡ d = omega arith in
          let moved : owed + t * q ≡ d * q = rw e (owed-sum (d - t) d t q apart) in
          grind (arith, nat_tests, moved)
      | inr past ↦
          let none : owed ≡ 0 = rw (e, sub-none past) (omega arith) in
          let less : d * q ≤ t * q = mul-le-mul_right q past in
          grind (arith, nat_tests, none, less)
    ]
  where
    sub-none : d ≤ t → d - t ≡ 0
    sub-none past = omega arith

-- where the test fails, what is left fits before the deadline
pub kept_wake_fits : (q p c d t : ℕ) → q ≤ p → c * p + t * q < d * q → t + c ≤ d
kept_wake_fits q p c d t within kept =
    elim (cases_lt d (t + c)) [
      | inl late ↦ absurd (omega (arith, mul-le-mul_right q (le_of_lt late), mul-le-mul_left c within))
      | inr fits ↦ fits
    ]

-- the test with the subtraction over ℤ, where the deadline is still ahead
signed_ahead : (q p c d t : ℕ) → t ≤ d →
    (d * q ≤ c * p + t * q) ↔ (((pos d -ℤ pos t) *ℤ pos q) ≤ℤ (pos c *ℤ pos p))
signed_ahead q p c d t ahead =
    let e : pos d -ℤ pos t ≡ pos (d - t) = omega (arith, ints) in
    let apart : (d - t) + t ≡ d = omega arith in
    let moved : (d - t) * q + t * q ≡ d * q = owed-sum (d - t) d t q apart in
    rw (e, pos-*ℤ-pos (d - t) q, pos-*ℤ-pos c p) (λ h. omega (arith, ints, moved), λ h. omega (arith, ints, moved))

-- the same where it has passed
signed_past : (q p c d t : ℕ) → d < t →
    (d * q ≤ c * p + t * q) ↔ (((pos d -ℤ pos t) *ℤ pos q) ≤ℤ (pos c *ℤ pos p))
signed_past q p c d t past =
    let e : pos d -ℤ pos t ≡ negsuc (t - d - 1) = omega (arith, ints) in
    let less : d * q ≤ t * q = mul-le-mul_right q (le_of_lt past) in
    rw (e, negsuc-*ℤ-pos (t - d - 1) q, pos-*ℤ-pos c p) (λ h. omega (arith, ints), λ h. omega (arith, ints, less))

-- the test over ℕ is the test over ℤ
pub signed-test : (q p c d t : ℕ) →
    (d * q ≤ c * p + t * q) ↔ (((pos d -ℤ pos t) *ℤ pos q) ≤ℤ (pos c *ℤ pos p))
signed-test q p c d t =
    elim (cases_lt d t) [ inl past ↦ signed_past q p c d t past | inr ahead ↦ signed_ahead q p c d t ahead ]
