-- Texts with no space in them, and the line that such words make.
use Rattle.std.proofs.Common.{◌≡◌, ℕ, ◌^◌, ◌<◌, Bool, true, false, cond, ◌&&◌, ◌||◌, eqb, leb, ltb, List, [], ◌∷◌, length, Option, Some, None, refl, ap, ◌∙◌, ◌⊎◌, inl, inr, arith, decimal, ne_eqb, lt-ltb}
use Rattle.std.specs.Prelude.{All}
use Rattle.std.specs.Char.{is_digit}
use Rattle.std.specs.List.{AllByRecursion, list_all}
use Rattle.std.specs.Str.Parse.{AllDigits, digits_value}
use Rattle.std.proofs.lemmas.Bool.{and_parts}
use Rattle.std.proofs.lemmas.Bool.Decides.{nat_tests}
use Rattle.std.proofs.lemmas.List.Elements.{All-from_recursion}
use Rattle.std.proofs.lemmas.List.Splits.{slice_split_none, slice_split_at}
use Rattle.std.proofs.lemmas.Fmt.{decimal_is_IsNumeral}
use Rattle.rt_words.proofs.Founds.{when_some}
use Rattle.rt_token.specs.Word.{is_word, is_word_start, is_word_part}
use Rattle.rt_token.specs.Number.{are_digits, value_up_to, after_zero, magnitude}
use Rattle.rt_token.specs.SpacedWords.{is_space}
use Rattle.rt_command.specs.Commands.{spaced}
use Rattle.rt_command.specs.CommandLine.{words}

-- no byte is a space
abbrev pub IsSpaceless : List ℕ → Type 0
IsSpaceless text = AllByRecursion (λ b. is_space b ≡ false) text

-- a test that a byte passes and a space does not
other_byte : (test : ℕ → Bool) (b : ℕ) → test 32 ≡ false → test b ≡ true → is_space b ≡ false
other_byte test b space passed = ne_eqb b 32 (λ same. let no = rw (same, space) at passed in cc)

all_spaceless : (test : ℕ → Bool) (bs : List ℕ) → test 32 ≡ false → list_all test bs ≡ true → IsSpaceless bs
all_spaceless test [] space passed = tt
all_spaceless test (b ∷ bs) space passed =
    let h = and_parts (test b) (list_all test bs) passed in
    (other_byte test b space h.0, all_spaceless test bs space h.1)

value_spaceless : (limit radix n : ℕ) (ds : List ℕ) → is_digit 32 radix ≡ false → value_up_to limit radix ds ≡ Some n
    → IsSpaceless ds
value_spaceless limit radix n ds space e =
    let found = when_some (are_digits radix ds && leb (digits_value radix ds) limit) (digits_value radix ds) n e in
    let tests = and_parts (are_digits radix ds) (leb (digits_value radix ds) limit) found.0 in
    let parts = and_parts (ltb 0 (length ds)) (list_all (λ d. is_digit d radix) ds) tests.0 in
    all_spaceless (λ d. is_digit d radix) ds space parts.1

-- what a choice found, and where
either_some : (b : Bool) (r s : Option ℕ) (n : ℕ) → cond b r s ≡ Some n → ((b ≡ true) × (r ≡ Some n)) ⊎ (s ≡ Some n)
either_some true r s n e = inl (refl, e)
either_some false r s n e = inr e

abbrev marks_hexadecimal : ℕ → Bool
marks_hexadecimal b = eqb b 120 || eqb b 88

abbrev marks_binary : ℕ → Bool
marks_binary b = eqb b 98 || eqb b 66

after_zero_spaceless : (limit n : ℕ) (bs : List ℕ) → after_zero limit bs ≡ Some n → IsSpaceless bs
after_zero_spaceless limit n [] e = tt
after_zero_spaceless limit n (b ∷ bs) e =
    let rest : Option ℕ = cond (marks_binary b) (value_up_to limit 2 bs) None in
    elim (either_some (marks_hexadecimal b) (value_up_to limit 16 bs) rest n e) [
      | inl found ↦ (other_byte marks_hexadecimal b refl found.0, value_spaceless limit 16 n bs refl found.1)
      | inr other ↦ elim (either_some (marks_binary b) (value_up_to limit 2 bs) None n other) [
        | inl found ↦ (other_byte marks_binary b refl found.0, value_spaceless limit 2 n bs refl found.1)
        | inr none ↦ absurd cc
      ]
    ]

-- numbers of assembly text have no space
pub magnitude_spaceless : (limit n : ℕ) (bs : List ℕ) → magnitude limit bs ≡ Some n → IsSpaceless bs
magnitude_spaceless limit n [] e = tt
magnitude_spaceless limit n (b ∷ bs) e =
    elim (either_some (eqb b 48) (after_zero limit bs) (value_up_to limit 10 (b ∷ bs)) n e) [
      | inl found ↦ (other_byte (λ b. eqb b 48) b refl found.0, after_zero_spaceless limit n bs found.1)
      | inr found ↦ value_spaceless limit 10 n (b ∷ bs) refl found
    ]

-- nor have its words
pub word_spaceless : (text : List ℕ) → is_word text ≡ true → IsSpaceless text
word_spaceless [] word = tt
word_spaceless (b ∷ bs) word =
    let h = and_parts (is_word_start b) (list_all is_word_part bs) word in
    (other_byte is_word_start b refl h.0, all_spaceless is_word_part bs refl h.1)

digits_spaceless : (ds : List ℕ) → AllDigits 10 ds → IsSpaceless ds
digits_spaceless [] h = tt
digits_spaceless (d ∷ ds) h = (other_byte (λ d. is_digit d 10) d refl (lt-ltb _ _ h.0), digits_spaceless ds h.1)

-- nor has a decimal number
pub decimal_spaceless : (n : ℕ) → n < 2 ^ 64 → IsSpaceless (decimal n)
decimal_spaceless n small = digits_spaceless (decimal n) (decimal_is_IsNumeral n (omega arith)).0.1

-- and it is no word
digit_no_start : (b : ℕ) → is_digit b 10 ≡ true → is_word_start b ≡ false
digit_no_start b digit = grind (arith, nat_tests)

digits_no_word : (ds : List ℕ) → AllDigits 10 ds → is_word ds ≡ false
digits_no_word [] h = refl
digits_no_word (d ∷ ds) h = rw (digit_no_start d (lt-ltb _ _ h.0)) refl

pub decimal_no_word : (n : ℕ) → n < 2 ^ 64 → is_word (decimal n) ≡ false
decimal_no_word n small = digits_no_word (decimal n) (decimal_is_IsNumeral n (omega arith)).0.1

no_space : (text : List ℕ) → IsSpaceless text → All (λ b. is_space b ≡ false) text
no_space text h = All-from_recursion (λ b. is_space b ≡ false) text h

-- the words of a line of such words are these
pub words_again : (text : List ℕ) (others : List (List ℕ)) → IsSpaceless text → AllByRecursion IsSpaceless others
    → words (spaced (text ∷ others)) ≡ text ∷ others
words_again text [] h hs = slice_split_none is_space text (no_space text h)
words_again text (other ∷ others) h hs =
    slice_split_at is_space text 32 (spaced (other ∷ others)) (no_space text h) refl
    ∙ ap (λ (ws : List (List ℕ)). text ∷ ws) (words_again other others hs.0 hs.1)
