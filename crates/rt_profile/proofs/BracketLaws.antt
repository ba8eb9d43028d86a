-- The brackets by number: each number is in one, and they follow one another.
use Rattle.rt_profile.proofs.Common.{◌≡◌, ℕ, zero, suc, ◌+◌, ◌-◌, ◌*◌, ◌/◌, ◌%◌, ◌^◌, ◌<◌, ◌≤◌, ◌==◌, nat_le, nat_lt, Bool, true, false, refl, sym, ap, subst, ◌∙◌, arith, leb-true, eqb-true, nat_tests, bracket_number, number_from}
use Rattle.std.proofs.Common.{◌⊎◌, inl, inr, pow-suc, div-lt_iff_lt-mul, le-div_iff_mul-le, mul-lt-mul_of_pos_right, mul-le-mul_right, lt_of_lt_of_le, mod-lt, mod-eq_of_lt}
use Rattle.std.proofs.Math.Nat.{pow-le-pow_right, mul-mod_left}
use Rattle.std.proofs.lemmas.Nat.{pow_pos, pow-add, shl-shr, shr_split, leading_length, one_shl}
use Rattle.rt_profile.specs.Brackets.{digits_beyond, bracket_from, bracket_to}
use Rattle.rt_profile.specs.NeedCounts.{beyond_in, number_to}

-- ---- how many digits beyond five

-- a number has k digits beyond five
record HasBeyond (k v : ℕ) : Type 0 where
  below : v < 32 * 2 ^ k
  above : (k ≡ 0) ⊎ (16 * 2 ^ k ≤ v)

long : (k m v : ℕ) → m ≡ 5 + k → v < 2 ^ m → 2 ^ m ≤ 2 * v + 1 → HasBeyond k v
long k m v is below above =
    let p : 2 ^ m ≡ 32 * 2 ^ k = ap (λ (n : ℕ). 2 ^ n) is ∙ pow-add 2 5 k in
    record { below = omega (arith, below, p); above = inr (omega (arith, above, p)) }

short : (m v : ℕ) → m ≤ 5 → v < 2 ^ m → HasBeyond 0 v
short m v few below =
    let p : 2 ^ m ≤ 2 ^ 5 = pow-le-pow_right {n = 2} (omega arith) few in
    record { below = lt_of_lt_of_le below p; above = inl refl }

by_length : (m v : ℕ) → v < 2 ^ m → 2 ^ m ≤ 2 * v + 1 → HasBeyond (m - 5) v
by_length m v below above =
    elim (nat_le m 5) as (λ b. nat_le m 5 ≡ b → HasBeyond (m - 5) v) [
      | true ↦ λ e.
          let few : m ≤ 5 = leb-true m 5 e in
          let none : 0 ≡ m - 5 = omega (arith, few) in
          subst (λ (k : ℕ). HasBeyond k v) none (short m v few below)
      | false ↦ λ e.
          let more : m ≡ 5 + (m - 5) = grind (arith, nat_tests) in
          long (m - 5) m v more below above
    ] refl

has_digits : (v : ℕ) → v < 2 ^ 64 → HasBeyond (digits_beyond v) v
has_digits v small =
    let l = leading_length 64 v small in
    let k : l.0 - 5 ≡ digits_beyond v = omega (arith, l.1) in
    subst (λ (j : ℕ). HasBeyond j v) k (by_length l.0 v l.2 l.3)

not-less : (j k v : ℕ) → j < k → HasBeyond j v → HasBeyond k v → ⊥
not-less j k v less one two =
    let p : 2 ^ suc j ≤ 2 ^ k = pow-le-pow_right {n = 2} (omega arith) less in
    let q : 2 ^ suc j ≡ 2 ^ j * 2 = pow-suc 2 j in
    elim two.above [
      | inl none ↦ omega (arith, none, less)
      | inr above ↦ omega (arith, above, one.below, p, q)
    ]

same_beyond : (j k v : ℕ) (a b : Bool) → nat_lt j k ≡ a → nat_lt k j ≡ b → HasBeyond j v → HasBeyond k v → j ≡ k
same_beyond j k v true b e f one two = let less : j < k = grind (arith, nat_tests) in absurd (not-less j k v less one two)
same_beyond j k v false true e f one two = let less : k < j = grind (arith, nat_tests) in absurd (not-less k j v less two one)
same_beyond j k v false false e f one two = grind (arith, nat_tests)

digits-are : (k v : ℕ) → v < 2 ^ 64 → HasBeyond k v → digits_beyond v ≡ k
digits-are k v small has = same_beyond (digits_beyond v) k v (nat_lt (digits_beyond v) k) (nat_lt k (digits_beyond v)) refl refl (has_digits v small) has

-- ---- the bracket of a number

-- bracket 16 * k + q holds the numbers from q * 2 ^ k on
record IsPlace (k q : ℕ) : Type 0 where
  few : q < 32
  many : (k ≡ 0) ⊎ (16 ≤ q)

place_of : (v : ℕ) → v < 2 ^ 64 → IsPlace (digits_beyond v) (v / 2 ^ digits_beyond v)
place_of v small =
    let k = digits_beyond v in
    let has = has_digits v small in
    let above : (k ≡ 0) ⊎ (16 ≤ v / 2 ^ k) = elim has.above [ inl none ↦ inl none | inr le ↦ inr ((le-div_iff_mul-le (pow_pos k)).1 le) ] in
    record { few = (div-lt_iff_lt-mul (pow_pos k)).1 has.below; many = above }

place-beyond : (k q : ℕ) → IsPlace k q → beyond_in (16 * k + q) ≡ k
place-beyond k q at = elim at.many [ inl none ↦ omega (arith, none, at.few) | inr le ↦ omega (arith, le, at.few) ]

place-from : (k q : ℕ) → IsPlace k q → number_from (16 * k + q) ≡ q * 2 ^ k
place-from k q at =
    let rest : 16 * k + q - 16 * k ≡ q = omega arith in
    ap (λ (j : ℕ). (16 * k + q - 16 * j) * 2 ^ j) (place-beyond k q at) ∙ ap (λ (n : ℕ). n * 2 ^ k) rest

place-to : (k q : ℕ) → IsPlace k q → number_to (16 * k + q) ≡ q * 2 ^ k + (2 ^ k - 1)
place-to k q at = ap (λ (j : ℕ). number_from (16 * k + q) + (2 ^ j - 1)) (place-beyond k q at) ∙ ap (λ (n : ℕ). n + (2 ^ k - 1)) (place-from k q at)

from-split : (v k : ℕ) → v / 2 ^ k * 2 ^ k ≡ v - v % 2 ^ k
from-split v k = omega (arith, shr_split v k)

pub bracket-first : (v : ℕ) → v < 2 ^ 64 → number_from (bracket_number v) ≡ bracket_from v
bracket-first v small = place-from (digits_beyond v) (v / 2 ^ digits_beyond v) (place_of v small) ∙ from-split v (digits_beyond v)

bracket-last : (v : ℕ) → v < 2 ^ 64 → number_to (bracket_number v) ≡ bracket_to v
bracket-last v small =
    place-to (digits_beyond v) (v / 2 ^ digits_beyond v) (place_of v small) ∙ ap (λ (n : ℕ). n + (2 ^ digits_beyond v - 1)) (from-split v (digits_beyond v))

bracket-holds : (v : ℕ) → v < 2 ^ 64 → (bracket_from v ≤ v) × (v ≤ bracket_to v)
bracket-holds v small =
    let k = digits_beyond v in
    let part : v % 2 ^ k < 2 ^ k = mod_below' v k in
    (omega arith, omega (arith, part, shr_split v k))
  where
    mod_below' : (n k : ℕ) → n % 2 ^ k < 2 ^ k
    mod_below' n k = mod-lt n (pow_pos k)

-- ---- the digits of a bracket

own_place : (b : ℕ) → IsPlace (beyond_in b) (b - 16 * beyond_in b)
own_place b = record { few = omega arith; many = by_size (nat_lt b 16) refl }
  where
    by_size : (c : Bool) → nat_lt b 16 ≡ c → (beyond_in b ≡ 0) ⊎ (16 ≤ b - 16 * beyond_in b)
    by_size true e = let low : b < 16 = grind (arith, nat_tests) in inl (omega (arith, low))
    by_size false e = let high : 16 ≤ b = grind (arith, nat_tests) in inr (omega (arith, high))

place-has : (k q : ℕ) → IsPlace k q → HasBeyond k (q * 2 ^ k)
place-has k q at = record {
  below = mul-lt-mul_of_pos_right at.few (pow_pos k);
  above = elim at.many as (λ _. (k ≡ 0) ⊎ (16 * 2 ^ k ≤ q * 2 ^ k)) [ inl none ↦ inl none | inr le ↦ inr (mul-le-mul_right (2 ^ k) le) ];
}

place-small : (k q : ℕ) → IsPlace k q → k ≤ 36 → q * 2 ^ k < 2 ^ 41
place-small k q at few =
    let p : 2 ^ k ≤ 2 ^ 36 = pow-le-pow_right {n = 2} (omega arith) few in
    omega (arith, (place-has k q at).below, p)

pub from-small : (b : ℕ) → b < 608 → number_from b < 2 ^ 41
from-small b low = place-small (beyond_in b) (b - 16 * beyond_in b) (own_place b) (omega (arith, low))

pub to-small : (b : ℕ) → b < 608 → number_to b < 2 ^ 42
to-small b low =
    let few : beyond_in b ≤ 36 = omega (arith, low) in
    let p : 2 ^ beyond_in b ≤ 2 ^ 36 = pow-le-pow_right {n = 2} (omega arith) few in
    omega (arith, p, from-small b low)

-- what fits in 64 bits loses none by a shift
pub from-whole : (b r : ℕ) → b < 608 → r ≡ beyond_in b → ((b - 16 * r) * 2 ^ r) % 2 ^ 64 ≡ number_from b
from-whole b r low is =
    let small : number_from b < 2 ^ 64 = omega (arith, from-small b low) in
    ap (λ (k : ℕ). ((b - 16 * k) * 2 ^ k) % 2 ^ 64) is ∙ mod-eq_of_lt small

pub one-whole : (b r : ℕ) → b < 608 → r ≡ beyond_in b → (1 * 2 ^ r) % 2 ^ 64 ≡ 2 ^ beyond_in b
one-whole b r low is = ap (λ (k : ℕ). (1 * 2 ^ k) % 2 ^ 64) is ∙ one_shl (beyond_in b) 64 (omega (arith, low))

own-digits : (b : ℕ) → b < 608 → digits_beyond (number_from b) ≡ beyond_in b
own-digits b low =
    let k = beyond_in b in
    let at = own_place b in
    let small : number_from b < 2 ^ 41 = place-small k (b - 16 * k) at (omega (arith, low)) in
    digits-are k (number_from b) (omega (arith, small)) (place-has k (b - 16 * k) at)

pub own-number : (b : ℕ) → b < 608 → bracket_number (number_from b) ≡ b
own-number b low =
    let k = beyond_in b in
    let back : 16 * k + (b - 16 * k) ≡ b = omega arith in
    ap (λ (d : ℕ). 16 * d + number_from b / 2 ^ d) (own-digits b low) ∙ ap (λ (q : ℕ). 16 * k + q) (shl-shr (b - 16 * k) k) ∙ back

pub own-to : (b : ℕ) → b < 608 → bracket_to (number_from b) ≡ number_to b
own-to b low =
    let k = beyond_in b in
    let none : number_from b % 2 ^ k ≡ 0 = mul-mod_left (b - 16 * k) (2 ^ k) in
    ap (λ (d : ℕ). number_from b - number_from b % 2 ^ d + (2 ^ d - 1)) (own-digits b low) ∙ omega (arith, none)

-- ---- one behind the other

next-same : (k q r : ℕ) → r ≡ q + 1 → r * 2 ^ k ≡ q * 2 ^ k + (2 ^ k - 1) + 1
next-same k q r is =
    let more : (q + 1) * 2 ^ k ≡ q * 2 ^ k + 2 ^ k = grind arith in
    ap (λ (n : ℕ). n * 2 ^ k) is ∙ omega (arith, more, pow_pos k)

next-wide : (j k q r : ℕ) → j ≡ suc k → r ≡ 16 → q ≡ 31 → r * 2 ^ j ≡ q * 2 ^ k + (2 ^ k - 1) + 1
next-wide j k q r wide first last =
    let p : 2 ^ j ≡ 2 ^ k * 2 = ap (λ (n : ℕ). 2 ^ n) wide ∙ pow-suc 2 k in
    let left : r * 2 ^ j ≡ 16 * 2 ^ j = ap (λ (n : ℕ). n * 2 ^ j) first in
    let right : q * 2 ^ k ≡ 31 * 2 ^ k = ap (λ (n : ℕ). n * 2 ^ k) last in
    omega (arith, p, left, right, pow_pos k)

pub next-from : (b : ℕ) → number_from (b + 1) ≡ number_to b + 1
next-from b = by_digits (beyond_in (b + 1) == beyond_in b) refl
  where
    by_digits : (c : Bool) → (beyond_in (b + 1) == beyond_in b) ≡ c → number_from (b + 1) ≡ number_to b + 1
    by_digits true e =
        let same : beyond_in (b + 1) ≡ beyond_in b = eqb-true (beyond_in (b + 1)) (beyond_in b) e in
        let more : b + 1 - 16 * beyond_in b ≡ b - 16 * beyond_in b + 1 = omega arith in
        ap (λ (j : ℕ). (b + 1 - 16 * j) * 2 ^ j) same ∙ next-same (beyond_in b) (b - 16 * beyond_in b) (b + 1 - 16 * beyond_in b) more
    by_digits false e =
        let wide : beyond_in (b + 1) ≡ suc (beyond_in b) = grind (arith, nat_tests) in
        next-wide (beyond_in (b + 1)) (beyond_in b) (b - 16 * beyond_in b) (b + 1 - 16 * beyond_in (b + 1)) wide (omega (arith, wide)) (omega (arith, wide))

pub next-less : (b : ℕ) → number_from b < number_from (b + 1)
next-less b = omega (arith, next-from b)

rises-by : (b d : ℕ) → number_from b ≤ number_from (b + d)
rises-by b zero = let same : b + 0 ≡ b = omega arith in rw same (omega arith)
rises-by b (suc d) =
    let at : b + d + 1 ≡ b + suc d = omega arith in
    let le : number_from b ≤ number_from (b + d + 1) = omega (arith, rises-by b d, next-less (b + d)) in
    subst (λ (c : ℕ). number_from b ≤ number_from c) at le

pub rises : (b c : ℕ) → b ≤ c → number_from b ≤ number_from c
rises b c le = let at : b + (c - b) ≡ c = omega (arith, le) in subst (λ (n : ℕ). number_from b ≤ number_from n) at (rises-by b (c - b))

-- ---- needs

pub number-within : (v : ℕ) → v < 2 ^ 41 → bracket_number v < 608
number-within v small =
    let k = digits_beyond v in
    let has = has_digits v (omega (arith, small)) in
    let at = place_of v (omega (arith, small)) in
    let few : k < 37 = by_size (nat_lt k 37) refl has in
    omega (arith, few, at.few)
  where
    by_size : (c : Bool) → nat_lt (digits_beyond v) 37 ≡ c → HasBeyond (digits_beyond v) v → digits_beyond v < 37
    by_size true e has = grind (arith, nat_tests)
    by_size false e has =
        let high : 37 ≤ digits_beyond v = grind (arith, nat_tests) in
        let p : 2 ^ 37 ≤ 2 ^ digits_beyond v = pow-le-pow_right {n = 2} (omega arith) high in
        elim has.above [
          | inl none ↦ absurd (omega (arith, none, high))
          | inr above ↦ absurd (omega (arith, above, p, small))
        ]

-- a number is in a bracket just where it has its number
pub in-test : (v b : ℕ) → v < 2 ^ 41 → b < 608 → (bracket_from v == number_from b) ≡ (bracket_number v == b)
in-test v b small low = by_number (bracket_number v == b) refl (bracket_from v == number_from b) refl
  where
    first : number_from (bracket_number v) ≡ bracket_from v
    first = bracket-first v (omega (arith, small))

    by_number : (c : Bool) → (bracket_number v == b) ≡ c → (d : Bool) → (bracket_from v == number_from b) ≡ d → d ≡ c
    by_number true e true f = refl
    by_number false e false f = refl
    by_number true e false f =
        let same : bracket_number v ≡ b = eqb-true (bracket_number v) b e in
        let equal : bracket_from v ≡ number_from b = sym first ∙ ap number_from same in
        absurd (grind (arith, nat_tests))
    by_number false e true f =
        let equal : bracket_from v ≡ number_from b = eqb-true (bracket_from v) (number_from b) f in
        let same : bracket_number v ≡ b =
        sym (own-number (bracket_number v) (number-within v small)) ∙ ap bracket_number (first ∙ equal) ∙ own-number b low in
        absurd (grind (arith, nat_tests))

-- it is at most a bracket's last just where its number is no greater
pub within-test : (v b : ℕ) → v < 2 ^ 41 → b < 608 → nat_le v (bracket_to (number_from b)) ≡ nat_lt (bracket_number v) (b + 1)
within-test v b small low = by_number (nat_lt (bracket_number v) (b + 1)) refl
  where
    last : bracket_to (number_from b) + 1 ≡ number_from (b + 1)
    last = ap (λ (n : ℕ). n + 1) (own-to b low) ∙ sym (next-from b)

    wide : v < 2 ^ 64
    wide = omega (arith, small)

    by_number : (c : Bool) → nat_lt (bracket_number v) (b + 1) ≡ c → nat_le v (bracket_to (number_from b)) ≡ c
    by_number true e =
        let n = bracket_number v in
        let less : n + 1 ≤ b + 1 = grind (arith, nat_tests) in
        let le : v ≤ bracket_to (number_from b) =
        omega (arith, (bracket-holds v wide).1, bracket-last v wide, next-from n, rises (n + 1) (b + 1) less, last) in
        grind (arith, nat_tests)
    by_number false e =
        let n = bracket_number v in
        let more : b + 1 ≤ n = grind (arith, nat_tests) in
        let above : bracket_to (number_from b) < v = omega (arith, (bracket-holds v wide).0, bracket-first v wide, rises (b + 1) n more, last) in
        grind (arith, nat_tests)
