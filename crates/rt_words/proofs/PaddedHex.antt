-- What `{:08x}` writes.
use Rattle.std.proofs.Common.{◌≡◌, ℕ, zero, suc, ◌+◌, ◌-◌, ◌/◌, ◌%◌, ◌^◌, ◌<◌, ◌≤◌, false, eqb, List, [], ◌∷◌, ◌++◌, length, refl, sym, ap, ◌∙◌, arith, inl, inr, append_assoc, append-nil, replicate}
use Rattle.std.proofs.Math.Nat.{sub-zero}
use Rattle.std.specs.Fmt.{digits, digits_onto, digit_glyph, padded_integral, format_spec, char_count}
use Rattle.std.proofs.lemmas.Bool.{cases_Bool, eqb-true}
use Rattle.rt_words.specs.Hex.{hex}

-- the digits, followed by more text
hex_onto : ℕ → ℕ → List ℕ → List ℕ
hex_onto zero n acc = acc
hex_onto (suc k) n acc = hex_onto k (n / 16) (digit_glyph false (n % 16) ∷ acc)

hex_onto-append : (k n : ℕ) (acc : List ℕ) → hex_onto k n acc ≡ hex k n ++ acc
unfolding hex_onto hex
hex_onto-append zero n acc = refl
hex_onto-append (suc k) n acc = hex_onto-append k (n / 16) (digit_glyph false (n % 16) ∷ acc) ∙ sym (append_assoc (hex k (n / 16)) (digit_glyph false (n % 16) ∷ []) acc)

zeros_before : (k : ℕ) (acc : List ℕ) → replicate k 48 ++ (48 ∷ acc) ≡ 48 ∷ (replicate k 48 ++ acc)
zeros_before zero acc = refl
zeros_before (suc k) acc = ap (λ (xs : List ℕ). 48 ∷ xs) (zeros_before k acc)

hex_onto-zero : (k n : ℕ) (acc : List ℕ) → n ≡ 0 → hex_onto k n acc ≡ replicate k 48 ++ acc
unfolding hex_onto
hex_onto-zero zero n acc none = refl
hex_onto-zero (suc k) n acc none =
    let quotient : n / 16 ≡ 0 = omega arith in
    let digit : n % 16 ≡ 0 = omega arith in
    rw digit (hex_onto-zero k (n / 16) (48 ∷ acc) quotient ∙ zeros_before k acc)

-- at most j + 1 digits, and zeros before them
fills : (j fuel n : ℕ) (acc : List ℕ) → j < fuel → n < 16 ^ suc j →
    (length (digits_onto fuel 16 false n acc) ≤ suc j + length acc)
    × (replicate (suc j + length acc - length (digits_onto fuel 16 false n acc)) 48 ++ digits_onto fuel 16 false n acc ≡ hex_onto (suc j) n acc)
unfolding hex_onto
fills j zero n acc enough fits = absurd (omega arith)
fills zero (suc fuel) n acc enough fits =
    let small : n / 16 ≡ 0 = omega arith in
    let none : suc zero + length acc - suc (length acc) ≡ 0 = omega arith in
    rw small (omega arith, rw none refl)
fills (suc j) (suc fuel) n acc enough fits =
    elim (cases_Bool (eqb (n / 16) 0)) [
      | inl last ↦
          let left : suc (suc j) + length acc - suc (length acc) ≡ suc j = omega arith in
          rw last (omega arith, rw left (sym (hex_onto-zero (suc j) (n / 16) (digit_glyph false (n % 16) ∷ acc) (eqb-true _ _ last))))
      | inr more ↦
          let rest = fills j fuel (n / 16) (digit_glyph false (n % 16) ∷ acc) (omega arith) (omega arith) in
          let wide : suc j + suc (length acc) ≡ suc (suc j) + length acc = omega arith in
          rw more (omega (arith, rest.0), rw (sym wide) rest.1)
    ]

-- a numeral, with zeros before it up to a width
padded_with_zeros : (width : ℕ) (ds : List ℕ) → padded_integral (format_spec 32 0 4 width (2 ^ 64 - 1)) false [] ds ≡ replicate (width - length ds) 48 ++ ds
unfolding padded_integral char_count
padded_with_zeros width ds = simp (append-nil, sub-zero)

-- how many digits `digits` writes at most
most_digits : ℕ
most_digits = 64

most_digits_is : most_digits ≡ 64
unfolding most_digits
most_digits_is = refl

digits_from : (n : ℕ) → digits 16 false n ≡ digits_onto most_digits 16 false n []
unfolding digits most_digits
digits_from n = refl

-- a number below 16^(k + 1), with a width of k + 1
padded_hex : (k n : ℕ) → n < 16 ^ suc k → k < 64 → padded_integral (format_spec 32 0 4 (suc k) (2 ^ 64 - 1)) false [] (digits 16 false n) ≡ hex (suc k) n
padded_hex k n fits small =
    let written = fills k most_digits n [] (omega (arith, most_digits_is)) fits in
    let width : suc k + length {A = ℕ} [] ≡ suc k = omega arith in
    rw (digits_from n) (padded_with_zeros (suc k) (digits_onto most_digits 16 false n [])
    ∙ rw width at written.1
    ∙ hex_onto-append (suc k) n [] ∙ append-nil _)

pub eight_digits : (n : ℕ) → n < 2 ^ 32 → padded_integral (format_spec 32 0 4 8 (2 ^ 64 - 1)) false [] (digits 16 false n) ≡ hex 8 n
eight_digits n fits = padded_hex 7 n fits (omega arith)
