-- Numbers in binary, split before their last eight digits.
use Rattle.rt_waves.proofs.Common.{◌≡◌, ℕ, zero, suc, ◌+◌, ◌^◌, ◌<◌, ◌≤◌, ◌==◌, Bool, true, false, cond, List, [], ◌∷◌, ◌++◌, append_assoc, inl, inr, refl, sym, ap, ◌∙◌, arith, eq-eqb, cases_lt, nat_tests, digits}
use Rattle.std.proofs.Common.{◌/◌, ◌%◌}
use Rattle.std.specs.Fmt.{digit_glyph, digits_onto}
use Rattle.rt_waves.specs.Working.Binary.{eight_digits}

digits-begin : (n : ℕ) → digits_onto 64 2 false n [] ≡ digits 2 false n
unfolding digits
digits-begin n = refl

glyph : (n : ℕ) → digit_glyph false (n % 2) ≡ 48 + n % 2
glyph n = let low : n % 2 < 10 = omega arith in grind (arith, nat_tests)

next : (k n : ℕ) (b : Bool) (rest : List ℕ) → (n / 2 == 0) ≡ b → digits_onto (suc k) 2 false n rest ≡ cond b (digit_glyph false (n % 2) ∷ rest) (digits_onto k 2 false (n / 2) (digit_glyph false (n % 2) ∷ rest))
next k n b rest is = ap (λ (t : Bool). cond t (digit_glyph false (n % 2) ∷ rest) (digits_onto k 2 false (n / 2) (digit_glyph false (n % 2) ∷ rest))) is

last_digit : (k n : ℕ) (rest : List ℕ) → n < 2 → digits_onto (suc k) 2 false n rest ≡ (48 + n % 2) ∷ rest
last_digit k n rest small = next k n true rest (eq-eqb (n / 2) 0 (omega arith)) ∙ ap (λ (g : ℕ). g ∷ rest) (glyph n)

next_digit : (k n : ℕ) (rest : List ℕ) → 2 ≤ n → digits_onto (suc k) 2 false n rest ≡ digits_onto k 2 false (n / 2) ((48 + n % 2) ∷ rest)
next_digit k n rest more =
    let some : 1 ≤ n / 2 = omega arith in
    let no : (n / 2 == 0) ≡ false = grind (arith, nat_tests) in
    next k n false rest no ∙ ap (λ (g : ℕ). digits_onto k 2 false (n / 2) (g ∷ rest)) (glyph n)

onto-append : (k n : ℕ) (rest : List ℕ) → digits_onto k 2 false n rest ≡ digits_onto k 2 false n [] ++ rest
onto-append zero n rest = refl
onto-append (suc k) n rest =
    elim (cases_lt n 2) [
      | inl small ↦ last_digit k n rest small ∙ ap (λ (x : List ℕ). x ++ rest) (sym (last_digit k n [] small))
      | inr more ↦
          next_digit k n rest more ∙ onto-append k (n / 2) ((48 + n % 2) ∷ rest)
          ∙ sym (append_assoc (digits_onto k 2 false (n / 2) []) ((48 + n % 2) ∷ []) rest)
          ∙ ap (λ (x : List ℕ). x ++ rest) (sym (next_digit k n [] more ∙ onto-append k (n / 2) ((48 + n % 2) ∷ [])))
    ]

-- how many digits there may be does not matter once they are enough
enough : (j k n : ℕ) (rest : List ℕ) → n < 2 ^ suc j → n < 2 ^ suc k → digits_onto (suc j) 2 false n rest ≡ digits_onto (suc k) 2 false n rest
enough zero k n rest p q = last_digit zero n rest (omega arith) ∙ sym (last_digit k n rest (omega arith))
enough (suc j) zero n rest p q = last_digit (suc j) n rest (omega arith) ∙ sym (last_digit zero n rest (omega arith))
enough (suc j) (suc k) n rest p q =
    elim (cases_lt n 2) [
      | inl small ↦ last_digit (suc j) n rest small ∙ sym (last_digit (suc k) n rest small)
      | inr more ↦ next_digit (suc j) n rest more ∙ enough j k (n / 2) ((48 + n % 2) ∷ rest) (omega arith) (omega arith) ∙ sym (next_digit (suc k) n rest more)
    ]

-- the last digit behind the others
digit-behind : (n : ℕ) → 2 ≤ n → n < 2 ^ 64 → digits 2 false n ≡ digits 2 false (n / 2) ++ (48 + n % 2) ∷ []
digit-behind n more small =
    sym (digits-begin n) ∙ next_digit 63 n [] more ∙ enough 62 63 (n / 2) ((48 + n % 2) ∷ []) (omega arith) (omega arith) ∙ onto-append 64 (n / 2) ((48 + n % 2) ∷ [])
    ∙ ap (λ (x : List ℕ). x ++ (48 + n % 2) ∷ []) (digits-begin (n / 2))

more-behind : (n : ℕ) (rest : List ℕ) → 2 ≤ n → n < 2 ^ 64 → digits 2 false n ++ rest ≡ digits 2 false (n / 2) ++ (48 + n % 2) ∷ rest
more-behind n rest more small = ap (λ (x : List ℕ). x ++ rest) (digit-behind n more small) ∙ append_assoc (digits 2 false (n / 2)) ((48 + n % 2) ∷ []) rest

-- the last eight behind the others
pub eight-behind : (n : ℕ) → 256 ≤ n → n < 2 ^ 64 → digits 2 false n ≡ digits 2 false (n / 256) ++ eight_digits (n % 256)
unfolding eight_digits
eight-behind n more small =
    let h1 : n / 2 / 2 ≡ n / 4 = omega arith in
    let h2 : n / 4 / 2 ≡ n / 8 = omega arith in
    let h3 : n / 8 / 2 ≡ n / 16 = omega arith in
    let h4 : n / 16 / 2 ≡ n / 32 = omega arith in
    let h5 : n / 32 / 2 ≡ n / 64 = omega arith in
    let h6 : n / 64 / 2 ≡ n / 128 = omega arith in
    let h7 : n / 128 / 2 ≡ n / 256 = omega arith in
    let d0 : n % 256 % 2 ≡ n % 2 = omega arith in
    let d1 : n % 256 / 2 % 2 ≡ n / 2 % 2 = omega arith in
    let d2 : n % 256 / 4 % 2 ≡ n / 4 % 2 = omega arith in
    let d3 : n % 256 / 8 % 2 ≡ n / 8 % 2 = omega arith in
    let d4 : n % 256 / 16 % 2 ≡ n / 16 % 2 = omega arith in
    let d5 : n % 256 / 32 % 2 ≡ n / 32 % 2 = omega arith in
    let d6 : n % 256 / 64 % 2 ≡ n / 64 % 2 = omega arith in
    let d7 : n % 256 / 128 % 2 ≡ n / 128 % 2 = omega arith in
    let s0 = digit-behind n (omega arith) small in
    let s1 = more-behind (n / 2) ((48 + n % 2) ∷ []) (omega arith) (omega arith) in
    let s2 = rw h1 at (more-behind (n / 2 / 2) ((48 + n / 2 % 2) ∷ (48 + n % 2) ∷ []) (omega arith) (omega arith)) in
    let s3 = more-behind (n / 8) ((48 + n / 4 % 2) ∷ (48 + n / 2 % 2) ∷ (48 + n % 2) ∷ []) (omega arith) (omega arith) in
    let s4 = more-behind (n / 16) ((48 + n / 8 % 2) ∷ (48 + n / 4 % 2) ∷ (48 + n / 2 % 2) ∷ (48 + n % 2) ∷ []) (omega arith) (omega arith) in
    let s5 = more-behind (n / 32) ((48 + n / 16 % 2) ∷ (48 + n / 8 % 2) ∷ (48 + n / 4 % 2) ∷ (48 + n / 2 % 2) ∷ (48 + n % 2) ∷ []) (omega arith) (omega arith) in
    let s6 = more-behind (n / 64) ((48 + n / 32 % 2) ∷ (48 + n / 16 % 2) ∷ (48 + n / 8 % 2) ∷ (48 + n / 4 % 2) ∷ (48 + n / 2 % 2) ∷ (48 + n % 2) ∷ []) (omega arith) (omega arith) in
    let s7 = more-behind (n / 128) ((48 + n / 64 % 2) ∷ (48 + n / 32 % 2) ∷ (48 + n / 16 % 2) ∷ (48 + n / 8 % 2) ∷ (48 + n / 4 % 2) ∷ (48 + n / 2 % 2) ∷ (48 + n % 2) ∷ []) (omega arith) (omega arith) in
    rw (d0, d1, d2, d3, d4, d5, d6, d7)
    (s0 ∙ rw h1 at s1 ∙ rw h2 at s2 ∙ rw h3 at s3 ∙ rw h4 at s4 ∙ rw h5 at s5 ∙ rw h6 at s6 ∙ rw h7 at s7)

-- the last sixteen
pub two-behind : (n : ℕ) → 65536 ≤ n → n < 2 ^ 64 → digits 2 false n ≡ (digits 2 false (n / 65536) ++ eight_digits (n / 256 % 256)) ++ eight_digits (n % 256)
two-behind n more small =
    let front : n / 256 / 256 ≡ n / 65536 = omega arith in
    eight-behind n (omega arith) small ∙ ap (λ (x : List ℕ). x ++ eight_digits (n % 256)) (eight-behind (n / 256) (omega arith) (omega arith))
    ∙ ap (λ (m : ℕ). (digits 2 false m ++ eight_digits (n / 256 % 256)) ++ eight_digits (n % 256)) front

-- the last thirty-two
pub four-behind : (n : ℕ) → 4294967296 ≤ n → n < 2 ^ 64
    → digits 2 false n ≡ (((digits 2 false (n / 4294967296) ++ eight_digits (n / 16777216 % 256)) ++ eight_digits (n / 65536 % 256)) ++ eight_digits (n / 256 % 256)) ++ eight_digits (n % 256)
four-behind n more small =
    let front : n / 65536 / 65536 ≡ n / 4294967296 = omega arith in
    let middle : n / 65536 / 256 ≡ n / 16777216 = omega arith in
    two-behind n (omega arith) small
    ∙ ap (λ (x : List ℕ). (x ++ eight_digits (n / 256 % 256)) ++ eight_digits (n % 256)) (two-behind (n / 65536) (omega arith) (omega arith))
    ∙ ap (λ (m : ℕ). (((digits 2 false m ++ eight_digits (n / 65536 / 256 % 256)) ++ eight_digits (n / 65536 % 256)) ++ eight_digits (n / 256 % 256)) ++ eight_digits (n % 256)) front
    ∙ ap (λ (m : ℕ). (((digits 2 false (n / 4294967296) ++ eight_digits (m % 256)) ++ eight_digits (n / 65536 % 256)) ++ eight_digits (n / 256 % 256)) ++ eight_digits (n % 256)) middle
