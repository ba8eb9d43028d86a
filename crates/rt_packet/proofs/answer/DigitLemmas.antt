-- The digits of a number, one by one.
use Rattle.rt_packet.proofs.Common.{◌≡◌, ℕ, zero, suc, ◌+◌, ◌/◌, ◌%◌, ◌^◌, ◌<◌, ◌≤◌, true, false, eqb, List, [], ◌∷◌, ◌++◌, length, refl, sym, ap, ◌∙◌, arith, inl, inr, append_assoc, eq-eqb, ne_eqb, cases_Bool, digit_glyph, digits}
use Rattle.std.specs.Fmt.{digits_onto}
use native.Mathlib.Nat.{pow-zero, pow-suc}

-- the digits stand before what follows them
onto : (k n : ℕ) (acc : List ℕ) → digits_onto k 16 false n acc ≡ digits_onto k 16 false n [] ++ acc
onto zero n acc = refl
onto (suc k) n acc = elim (cases_Bool (eqb (n / 16) 0)) [
  | inl is ↦ rw is refl
  | inr more ↦ rw more (
      onto k (n / 16) (digit_glyph false (n % 16) ∷ acc)
      ∙ sym (append_assoc (digits_onto k 16 false (n / 16) []) (digit_glyph false (n % 16) ∷ []) acc)
      ∙ ap (λ (l : List ℕ). l ++ acc) (sym (onto k (n / 16) (digit_glyph false (n % 16) ∷ []))))
]

-- room beyond the digits changes nothing
settled : (k i j n : ℕ) (acc : List ℕ) → n < 16 ^ (suc k) → k ≤ i → k ≤ j → digits_onto (suc i) 16 false n acc ≡ digits_onto (suc j) 16 false n acc
settled zero i j n acc small a b =
    let one : n / 16 ≡ 0 = omega (arith, pow-suc 16 0, pow-zero 16) in
    let is : eqb (n / 16) 0 ≡ true = eq-eqb _ 0 one in
    rw is refl
settled (suc k) zero j n acc small a b = absurd (omega arith)
settled (suc k) (suc i) zero n acc small a b = absurd (omega arith)
settled (suc k) (suc i) (suc j) n acc small a b = elim (cases_Bool (eqb (n / 16) 0)) [
  | inl is ↦ rw is refl
  | inr more ↦ rw more (settled k i j (n / 16) (digit_glyph false (n % 16) ∷ acc) (omega (arith, pow-suc 16 (suc k))) (omega arith) (omega arith))
]

-- a number has no more digits than its size says
size_onto : (k i n : ℕ) (acc : List ℕ) → n < 16 ^ (suc k) → length (digits_onto (suc i) 16 false n acc) ≤ suc k + length acc
size_onto zero i n acc small =
    let one : n / 16 ≡ 0 = omega (arith, pow-suc 16 0, pow-zero 16) in
    let is : eqb (n / 16) 0 ≡ true = eq-eqb _ 0 one in
    rw is (omega arith)
size_onto (suc k) zero n acc small = elim (cases_Bool (eqb (n / 16) 0)) [
  | inl is ↦ rw is (omega arith)
  | inr more ↦ rw more (omega arith)
]
size_onto (suc k) (suc i) n acc small = elim (cases_Bool (eqb (n / 16) 0)) [
  | inl is ↦ rw is (omega arith)
  | inr more ↦ rw more (omega (arith, size_onto k i (n / 16) (digit_glyph false (n % 16) ∷ acc) (omega (arith, pow-suc 16 (suc k)))))
]

pub one_digit : (n : ℕ) → n < 16 → digits 16 false n ≡ digit_glyph false n ∷ []
unfolding digits
one_digit n small =
    let is : eqb (n / 16) 0 ≡ true = eq-eqb _ 0 (omega arith) in
    let same : n % 16 ≡ n = omega arith in
    rw is (ap (λ (d : ℕ). digit_glyph false d ∷ []) same)

pub last_digit : (n : ℕ) → 16 ≤ n → n < 2 ^ 64 → digits 16 false n ≡ digits 16 false (n / 16) ++ digit_glyph false (n % 16) ∷ []
unfolding digits
last_digit n large small =
    let more : eqb (n / 16) 0 ≡ false = ne_eqb _ 0 (λ is. omega arith) in
    rw more (settled 15 62 63 (n / 16) (digit_glyph false (n % 16) ∷ []) (omega arith) (omega arith) (omega arith) ∙ onto 64 (n / 16) (digit_glyph false (n % 16) ∷ []))

pub size_digits : (n : ℕ) → n < 2 ^ 64 → length (digits 16 false n) ≤ 16
unfolding digits
size_digits n small = omega (arith, size_onto 15 63 n [] (omega arith))
