-- A number that is written reads back.
use Rattle.rt_text.proofs.Common.{◌≡◌, ℕ, zero, suc, ℤ, pos, negsuc, ◌≤ℤ◌, Bool, true, false, ◌&&◌, ◌+◌, ◌-◌, ◌^◌, ◌<◌, ◌≤◌, List, [], ◌∷◌, length, get_or, refl, sym, ap, ◌∙◌, arith, eqb, Option, Some, inl, inr, length-append, decimal, signed_decimal, list_all, option_map, eqb-true, and_parts, nat_tests, hex, number, is_printable}
use Rattle.std.proofs.Common.{◌/◌, ◌%◌}
use Rattle.std.specs.Prelude.{neg_ℤ}
use Rattle.std.specs.Char.{is_digit, digit_value, is_ascii_digit}
use Rattle.std.specs.Fmt.{digit_glyph}
use Rattle.std.specs.List.{range_with_len}
use Rattle.std.specs.Str.Parse.{AllDigits, digits_value}
use Rattle.std.proofs.lemmas.Bool.{cases_Bool, eq-eqb, lt-ltb, ne_eqb}
use Rattle.std.proofs.lemmas.Int.{ints}
use Rattle.std.proofs.lemmas.Fmt.{decimal_is_IsNumeral, decimal_digit, first_decimal}
use Rattle.std.proofs.lemmas.Int.Digits.{digits_value_push}
use Rattle.std.proofs.lemmas.List.Folds.{list_all-append}
use Rattle.std.proofs.lemmas.Str.Parse.{digit_from_value}
use Rattle.rt_token.specs.Number.{value_up_to, magnitude}
use Rattle.rt_token.specs.Word.{is_word_part}

-- a byte of a word or a number, which is no line feed and no other control byte
abbrev pub is_shown : ℕ → Bool
is_shown b = is_word_part b && is_printable b

-- ---- decimal numbers

-- what each digit passes, digits pass
all_digits : (p : ℕ → Bool) → ((c : ℕ) → digit_value c < 10 → p c ≡ true) → (ds : List ℕ) → AllDigits 10 ds → list_all p ds ≡ true
all_digits p each [] digits = refl
all_digits p each (c ∷ cs) digits = rw (each c digits.0, all_digits p each cs digits.1) refl

digit_is : (c : ℕ) → digit_value c < 10 → is_digit c 10 ≡ true
digit_is c small = grind (arith, nat_tests)

digit_shown : (c : ℕ) → digit_value c < 10 → is_shown c ≡ true
digit_shown c small = let range = digit_from_value c small in grind (arith, nat_tests, range)

pub digit_is_ascii : (c : ℕ) → digit_value c < 10 → is_ascii_digit c ≡ true
digit_is_ascii c small = let range = digit_from_value c small in grind (arith, nat_tests, range)

pub digits_shown : (ds : List ℕ) → AllDigits 10 ds → list_all is_shown ds ≡ true
digits_shown ds digits = all_digits is_shown digit_shown ds digits

-- digits of which the first is no 0 are read as their value
read_digits : (limit n : ℕ) (ds : List ℕ) → 48 < get_or ds 0 0 → AllDigits 10 ds → digits_value 10 ds ≡ n → n ≤ limit → magnitude limit ds ≡ Some n
read_digits limit n [] first digits value small = absurd (omega arith)
read_digits limit n (b ∷ bs) first digits value small =
    let differs : b ≡ 48 → ⊥ = λ same. omega arith in
    let all : list_all (λ d. is_digit d 10) (b ∷ bs) ≡ true = all_digits (λ d. is_digit d 10) digit_is (b ∷ bs) digits in
    rw (ne_eqb b 48 differs) (read_value limit n 10 b bs all value small)
  where
    read_value : (limit n radix b : ℕ) (bs : List ℕ) → list_all (λ d. is_digit d radix) (b ∷ bs) ≡ true → digits_value radix (b ∷ bs) ≡ n → n ≤ limit → value_up_to limit radix (b ∷ bs) ≡ Some n
    read_value limit n radix b bs all value small = rw (all, value) (grind (arith, nat_tests))

-- a decimal number is read
read_decimal : (limit n : ℕ) → n ≤ limit → n < 2 ^ 32 → magnitude limit (decimal n) ≡ Some n
read_decimal limit zero small fits = rw (decimal_digit 0 (omega arith)) refl
read_decimal limit (suc n) small fits =
    let numeral = decimal_is_IsNumeral (suc n) (omega arith) in
    read_digits limit (suc n) (decimal (suc n)) (first_decimal (suc n) (omega arith) (omega arith)) numeral.0.1 numeral.1 small

not_minus : (ds : List ℕ) (o : Option ℕ) → (0 < length ds) → AllDigits 10 ds → magnitude (2 ^ 32 - 1) ds ≡ o → number ds ≡ option_map pos o
not_minus [] o some digits is = absurd (omega arith)
not_minus (b ∷ bs) o some digits is =
    let range = digit_from_value b digits.0 in
    let differs : b ≡ 45 → ⊥ = λ same. omega arith in
    rw (ne_eqb b 45 differs) (ap (option_map pos) is)

pub number_decimal : (n : ℕ) → n < 2 ^ 32 → number (decimal n) ≡ Some (pos n)
number_decimal n fits =
    let numeral = decimal_is_IsNumeral n (omega arith) in
    not_minus (decimal n) (Some n) numeral.0.0 numeral.0.1 (read_decimal (2 ^ 32 - 1) n (omega arith) fits)

-- and so is one with a sign
pub number_signed : (i : ℤ) → negsuc 2047 ≤ℤ i → i ≤ℤ pos 2047 → number (signed_decimal i) ≡ Some i
number_signed (pos n) low high = number_decimal n (omega (arith, ints))
number_signed (negsuc n) low high = ap (option_map (λ m. neg_ℤ (pos m))) (read_decimal (2 ^ 31) (suc n) (omega (arith, ints)) (omega (arith, ints)))

-- ---- hexadecimal numbers

-- what a test finds true of each number of a range holds of each of them
pub passes_all : (p : ℕ → Bool) (a n d : ℕ) → list_all p (range_with_len a n) ≡ true → a ≤ d → d < a + n → p d ≡ true
passes_all p a zero d all low high = absurd (omega arith)
passes_all p a (suc n) d all low high =
    let parts = and_parts (p a) (list_all p (range_with_len (a + 1) n)) all in
    elim (cases_Bool (eqb a d)) [
      | inl same ↦ ap p (sym (eqb-true a d same)) ∙ parts.0
      | inr other ↦
          let differs : a ≡ d → ⊥ = λ same. false_true (sym other ∙ eq-eqb a d same) in
          passes_all p (a + 1) n d parts.1 (omega arith) (omega arith)
    ]
  where
    false_true : false ≡ true → ⊥
    false_true e = cc

-- a hexadecimal digit has its value, and is part of a number
is_hex_digit : ℕ → Bool
is_hex_digit d = eqb (digit_value (digit_glyph false d)) d && is_shown (digit_glyph false d)

hex_digits : list_all is_hex_digit (range_with_len 0 16) ≡ true
unfolding is_hex_digit
hex_digits = refl

hex_digit : (d : ℕ) → d < 16 → (digit_value (digit_glyph false d) ≡ d) × (is_shown (digit_glyph false d) ≡ true)
unfolding is_hex_digit
hex_digit d small =
    let parts = and_parts (eqb (digit_value (digit_glyph false d)) d) (is_shown (digit_glyph false d)) (passes_all is_hex_digit 0 16 d hex_digits (omega arith) small) in
    (eqb-true _ _ parts.0, parts.1)

glyph_is : (d : ℕ) → d < 16 → is_digit (digit_glyph false d) 16 ≡ true
glyph_is d small = let value = (hex_digit d small).0 in rw value (lt-ltb d 16 small)

hex_are : (k n : ℕ) → list_all (λ d. is_digit d 16) (hex k n) ≡ true
unfolding hex
hex_are zero n = refl
hex_are (suc k) n =
    let digit : is_digit (digit_glyph false (n % 16)) 16 ≡ true = glyph_is (n % 16) (omega arith) in
    list_all-append (λ d. is_digit d 16) (hex k (n / 16)) (digit_glyph false (n % 16) ∷ []) ∙ rw (hex_are k (n / 16), digit) refl

pub hex_shown : (k n : ℕ) → list_all is_shown (hex k n) ≡ true
unfolding hex
hex_shown zero n = refl
hex_shown (suc k) n =
    let digit : is_shown (digit_glyph false (n % 16)) ≡ true = (hex_digit (n % 16) (omega arith)).1 in
    list_all-append is_shown (hex k (n / 16)) (digit_glyph false (n % 16) ∷ []) ∙ rw (hex_shown k (n / 16), digit) refl

pub hex_length : (k n : ℕ) → length (hex k n) ≡ k
unfolding hex
hex_length zero n = refl
hex_length (suc k) n = length-append (hex k (n / 16)) (digit_glyph false (n % 16) ∷ []) ∙ rw (hex_length k (n / 16)) (omega arith)

hex_value : (k n : ℕ) → n < 16 ^ k → digits_value 16 (hex k n) ≡ n
unfolding hex
hex_value zero n fits = omega arith
hex_value (suc k) n fits =
    digits_value_push 16 (hex k (n / 16)) (digit_glyph false (n % 16))
    ∙ rw (hex_value k (n / 16) (omega arith), (hex_digit (n % 16) (omega arith)).0) (omega arith)

-- eight digits, or five, are read
pub number_hex : (k n : ℕ) → 0 < k → n < 16 ^ k → n < 2 ^ 32 → number (48 ∷ 120 ∷ hex k n) ≡ Some (pos n)
number_hex k n some fits small = ap (option_map pos) (read (hex k n) (omega (arith, hex_length k n)) (hex_are k n) (hex_value k n fits))
  where
    read : (ds : List ℕ) → 0 < length ds → list_all (λ d. is_digit d 16) ds ≡ true → digits_value 16 ds ≡ n → magnitude (2 ^ 32 - 1) (48 ∷ 120 ∷ ds) ≡ Some n
    read ds some all value = rw (all, value) (grind (arith, nat_tests))
