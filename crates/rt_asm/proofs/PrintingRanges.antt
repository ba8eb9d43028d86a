-- The fields of a word lie in their ranges, and distances give targets back.
use Rattle.rt_asm.proofs.Common.{◌≡◌, ℕ, suc, ℤ, pos, false, ◌+◌, ◌-◌, ◌%◌, ◌^◌, ◌<◌, ◌≤◌, refl, ap, ◌∙◌, arith, nat_tests, ints, signed}
use Rattle.std.proofs.Common.{negsuc, ◌+ℤ◌, ◌-ℤ◌, ◌≤ℤ◌, ltb, inl, inr}
use Rattle.std.specs.Prelude.{unsigned_abs}
use Rattle.std.specs.Int.{int_rem_euclid}
use Rattle.std.proofs.lemmas.Bool.{cases_Bool, ltb-true, ltb-false, lt-ltb}
use Rattle.std.proofs.lemmas.Int.{int_rem_euclid_is}
use Rattle.rt_isa.specs.Numbers.{IsEven}
use Rattle.rt_isa.specs.Print.{target}
use Rattle.rt_words.specs.Modular.{modulo, difference32}

-- ---- a number with sign

below : (n m : ℕ) → n < m → pos n -ℤ pos m ≡ negsuc (m - 1 - n)
below n m small = omega (arith, ints)

-- 12 bits
pub record Immediate (i : ℤ) : Type 0 where
  pub low : negsuc 2047 ≤ℤ i
  pub high : i ≤ℤ pos 2047

pub immediate : (n : ℕ) → n < 2 ^ 12 → Immediate (signed 12 n)
unfolding signed
immediate n small =
    elim (cases_Bool (ltb n 2048)) [
      | inl positive ↦ let p : n < 2048 = ltb-true n 2048 positive in rw positive (record { low = omega (arith, ints); high = omega (arith, ints) })
      | inr negative ↦ let p : 2048 ≤ n = ltb-false n 2048 negative in rw (negative, below n 4096 small) (record { low = omega (arith, ints); high = omega (arith, ints) })
    ]

-- the distance of a branch or a jump: an even number of at most so many bytes, either way
pub record Offset (limit : ℕ) (i : ℤ) : Type 0 where
  pub low : negsuc limit ≤ℤ i
  pub high : i ≤ℤ pos limit
  pub even : IsEven i

pub branch_offset : (n : ℕ) → n < 2 ^ 13 → n % 2 ≡ 0 → Offset 4095 (signed 13 n)
unfolding signed
branch_offset n small even =
    elim (cases_Bool (ltb n 4096)) [
      | inl positive ↦ let p : n < 4096 = ltb-true n 4096 positive in rw positive (record { low = omega (arith, ints); high = omega (arith, ints); even = even })
      | inr negative ↦ let p : 4096 ≤ n = ltb-false n 4096 negative in rw (negative, below n 8192 small) (record { low = omega (arith, ints); high = omega (arith, ints); even = omega arith })
    ]

pub jump_offset : (n : ℕ) → n < 2 ^ 21 → n % 2 ≡ 0 → Offset 1048575 (signed 21 n)
unfolding signed
jump_offset n small even =
    elim (cases_Bool (ltb n 1048576)) [
      | inl positive ↦ let p : n < 1048576 = ltb-true n 1048576 positive in rw positive (record { low = omega (arith, ints); high = omega (arith, ints); even = even })
      | inr negative ↦ let p : 1048576 ≤ n = ltb-false n 1048576 negative in rw (negative, below n 2097152 small) (record { low = omega (arith, ints); high = omega (arith, ints); even = omega arith })
    ]

-- ---- targets

pub target_small : (pc : ℕ) (i : ℤ) → target pc i < 2 ^ 32
target_small pc i = rest (pos pc +ℤ i)
  where
    rest : (z : ℤ) → unsigned_abs (int_rem_euclid z (pos 4294967296)) < 4294967296
    rest (pos n) = omega arith
    rest (negsuc n) = omega arith

backwards : (pc k : ℕ) → k < 2 ^ 31 → target pc (negsuc k) ≡ (pc + (2 ^ 32 - suc k)) % 2 ^ 32
backwards pc k small =
    ap unsigned_abs (int_rem_euclid_is (pos pc +ℤ negsuc k) (pos 4294967296) 4294967296 1 (pc + (4294967296 - suc k)) (omega arith) refl (omega (arith, ints)))

-- the distance from pc to a target, as a number below 2^32
pub record Reached (pc : ℕ) (i : ℤ) : Type 0 where
  pub value : signed 32 (difference32 (modulo 32 (pos (target pc i))) pc) ≡ i
  pub even : difference32 (modulo 32 (pos (target pc i))) pc % 2 ≡ 0

forwards_is : (pc k : ℕ) → pc < 2 ^ 32 → k < 2 ^ 31 → difference32 ((pc + k) % 2 ^ 32 % 2 ^ 32) pc ≡ k
forwards_is pc k is_pc small = omega arith

backwards_is : (pc k : ℕ) → pc < 2 ^ 32 → k < 2 ^ 31 → difference32 ((pc + (2 ^ 32 - suc k)) % 2 ^ 32 % 2 ^ 32) pc ≡ 2 ^ 32 - suc k
backwards_is pc k is_pc small = omega arith

positive : (n : ℕ) → n < 2 ^ 31 → signed 32 n ≡ pos n
unfolding signed
positive n small = rw (lt-ltb n 2147483648 small) refl

negative : (k : ℕ) → k < 2 ^ 31 → signed 32 (2 ^ 32 - suc k) ≡ negsuc k
unfolding signed
negative k small =
    let large : ltb (4294967296 - suc k) 2147483648 ≡ false = grind (arith, nat_tests) in
    let n : 4294967296 - 1 - (4294967296 - suc k) ≡ k = omega arith in
    rw (large, below (4294967296 - suc k) 4294967296 (omega arith), n) refl

pub reached : (pc : ℕ) (i : ℤ) → pc < 2 ^ 32 → Offset 1048575 i → Reached pc i
reached pc (pos k) is_pc offset =
    let small : k < 2 ^ 31 = omega (arith, ints, offset.high) in
    let is = forwards_is pc k is_pc small in
    record { value = ap (signed 32) is ∙ positive k small; even = rw is offset.even }
reached pc (negsuc k) is_pc offset =
    let small : k < 2 ^ 31 = omega (arith, ints, offset.low) in
    let is = ap (λ (n : ℕ). difference32 (n % 2 ^ 32) pc) (backwards pc k small) ∙ backwards_is pc k is_pc small in
    let odd : k % 2 ≡ 1 = offset.even in
    let last : (2 ^ 32 - suc k) % 2 ≡ 0 = omega arith in
    record { value = ap (signed 32) is ∙ negative k small; even = rw is last }
